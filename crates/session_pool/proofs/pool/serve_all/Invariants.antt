use Rattle.session_pool.specs.Serving.{HasPooled}
use Rattle.session_pool.proofs.pool.serve_all.Given as goal

abbrev pub invariant-loop : goal.invariant-loop
invariant-loop g l = let L = g.L.IssuePasses in let W = g.W.Serve in let A = g.A.Accept in
    L.is_of l.fn.lock l.pass × HasPooled L.owner (L.knows l.fn.pass) (A.given_count l.accept) (W.count l.tally) (L.knows l.pass)

use Rattle.crossbeam_channel.specs.Claims.{view, IsSeatAt}
use Rattle.crossbeam_channel.specs.Ends.{receives_on}
use Rattle.session_pool.specs.inside.Work.{HasWorked}
use Rattle.session_pool.proofs.work.work.Given as goal

abbrev pub invariant-loop : goal.invariant-loop
invariant-loop g l = g.L.IssuePasses.is_of l.fn.lock l.pass × IsSeatAt (receives_on l.fn.from) l.seat × HasWorked g.L.IssuePasses.owner (g.L.IssuePasses.knows l.pass) (g.W.Serve.count l.tally) (view l.seat)

use Rattle.std.proofs.Common.{◌≡◌}
use Rattle.crossbeam_channel.specs.Claims.{view, IsSeatAt}
use Rattle.crossbeam_channel.specs.Ends.{sends_on}
use Rattle.session_pool.specs.inside.Work.{IsPlaced, GoesOn}
use Rattle.session_pool.proofs.gather.feed.Given as goal

abbrev pub invariant-loop : goal.invariant-loop
invariant-loop g l = let L = g.L.IssuePasses in let W = g.W.Serve in let A = g.A.Accept in
    IsPlaced (L.is_of l.fn.lock) (IsSeatAt (sends_on l.fn.to)) l.own
    × ((view l.own.seat).parts ≡ (view l.fn.own.seat).parts)
    × GoesOn L.owner L.knows W.count l.fn.own (A.given_count l.fn.accept) l.own (A.given_count l.accept)

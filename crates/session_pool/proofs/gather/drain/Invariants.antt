use Rattle.std.proofs.Common.{◌≡◌, ℕ}
use Rattle.crossbeam_channel.specs.Claims.{view, IsSeatAt}
use Rattle.crossbeam_channel.specs.Ends.{receives_on}
use Rattle.session_pool.specs.inside.Rule.{all_parts}
use Rattle.session_pool.specs.inside.Work.{GoesOn}
use Rattle.session_pool.proofs.gather.drain.Given as goal

abbrev pub invariant-loop : goal.invariant-loop
invariant-loop g l = let L = g.L.IssuePasses in let W = g.W.Serve in
    L.is_of l.fn.lock l.pass
    × IsSeatAt (receives_on l.fn.from) l.seat
    × ((view l.seat).parts ≡ all_parts)
    × ((given : ℕ) → GoesOn L.owner L.knows W.count l.fn.own given (record { pass = l.pass; seat = l.seat; tally = l.tally }) given)

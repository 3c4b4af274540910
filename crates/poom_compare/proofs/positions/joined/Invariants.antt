use Rattle.poom_compare.proofs.IntervalSteps.{IsJoined}
use Rattle.poom_compare.proofs.positions.joined.Given as goal

abbrev pub invariant-loop-interval : goal.invariant-loop-interval
invariant-loop-interval l = IsJoined l.length l.interval-items l.interval-index l.made.items

use Rattle.std.proofs.Common.{◌-◌}
use Rattle.granfilade.proofs.Counting.{Halved}
use Rattle.granfilade.proofs.parts.count_before.Given as goal

abbrev pub invariant-loop-low : goal.invariant-loop-low
invariant-loop-low l = Halved l.start l.count l.at l.low l.high

abbrev pub decreases-loop-low : goal.decreases-loop-low
decreases-loop-low l = l.high - l.low

use Rattle.std.proofs.Common.{length, ◌-◌, ◌≤◌}
use Rattle.poom_compare.proofs.Sought.{Sought}
use Rattle.poom_compare.proofs.starts.push_starts.Given as goal

abbrev pub invariant-loop-k : goal.invariant-loop-k
invariant-loop-k l = (l.from ≤ l.k) × Sought l.side l.outer l.inners l.k l.fn.found.items l.found.items

abbrev pub decreases-loop-k : goal.decreases-loop-k
decreases-loop-k l = length l.inners - l.k

use Rattle.std.proofs.Common.{◌≤◌, length}
use Rattle.enfilade_sweep.specs.Sweep.{numbers}
use Rattle.enfilade_sweep.specs.Marks.{AreMarked}
use Rattle.enfilade_sweep.proofs.marks.reached.Given as goal

abbrev pub invariant-loop-number : goal.invariant-loop-number
invariant-loop-number g l = record {
  most : l.number ≤ length l.old;
  marked : AreMarked l.old (numbers l.roots) l.marks.items l.number;
}

abbrev pub decreases-loop-number : goal.decreases-loop-number
decreases-loop-number g l = l.number

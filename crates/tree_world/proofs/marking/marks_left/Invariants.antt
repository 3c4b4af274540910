use Rattle.std.proofs.Common.{◌≤◌, length, drop}
use Rattle.tree_world.specs.inside.Marked.{AreIdle}
use Rattle.tree_world.proofs.marking.marks_left.Given as goal

abbrev pub invariant-loop-left : goal.invariant-loop-left
invariant-loop-left l = record {
  within : l.left ≤ length l.due;
  idle : AreIdle l.pooms l.documents (drop l.left l.due);
}

abbrev pub decreases-loop-left : goal.decreases-loop-left
decreases-loop-left l = l.left

use Rattle.std.proofs.Common.{All, take}
use Rattle.tree_world.specs.inside.InEnds.{IsWithin}
use Rattle.tree_world.proofs.numbers.extents_of.Given as goal

abbrev pub invariant-loop-run : goal.invariant-loop-run
invariant-loop-run l = All (IsWithin l.extents) (take l.run-index l.runs)

use Rattle.std.proofs.Common.{◌≡◌, min, take}
use Rattle.tree_world.specs.Condition.{documents_depth}
use Rattle.tree_world.proofs.measures.documents_depth.Given as goal

abbrev pub invariant-loop-k : goal.invariant-loop-k
invariant-loop-k l = l.deepest ≡ min (documents_depth l.pooms (take l.k l.documents)) 4294967295

use Rattle.std.proofs.Common.{◌≡◌, min, take}
use Rattle.enfilade_core.specs.Summary.{most_count}
use Rattle.tree_world.specs.Condition.{documents_debt}
use Rattle.tree_world.proofs.measures.documents_debt.Given as goal

abbrev pub invariant-loop-k : goal.invariant-loop-k
invariant-loop-k l = l.owed ≡ min (documents_debt l.pooms (take l.k l.documents)) most_count

use Rattle.std.proofs.Common.{◌≡◌, map, take}
use Rattle.doc_table.specs.declared.rows.DocumentRow.{DocumentRow}
use Rattle.enfilade_core.specs.declared.tree.Node.{Node}
use Rattle.tree_world.proofs.sweeping.roots_of.Given as goal

abbrev pub invariant-loop-k : goal.invariant-loop-k
invariant-loop-k l = l.made.items ≡ map (λ (row : DocumentRow Node). row.root) (take l.k l.documents)

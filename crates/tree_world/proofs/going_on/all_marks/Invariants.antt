use Rattle.std.proofs.Common.{◌≡◌, take}
use Rattle.doc_table.specs.DocumentRows.{documents_in}
use Rattle.tree_world.proofs.going_on.all_marks.Given as goal

abbrev pub invariant-loop-k : goal.invariant-loop-k
invariant-loop-k l = l.made.items ≡ documents_in (take l.k l.documents)

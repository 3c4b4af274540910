use Rattle.page_trees.proofs.Rooted.{AreRooted}
use Rattle.page_trees.proofs.roots.have_documents.Given as goal

abbrev pub invariant-loop-row : goal.invariant-loop-row
invariant-loop-row l = AreRooted l.rows l.count l.row-index

-- Marks of documents whose trees may allow a step of the balancer.
use Rattle.std.specs.Prelude.{◌≡◌, ℕ, ◌+◌, true, false, List, Some, slice_get, IsTrue}
use Rattle.std.specs.List.{list_any}
use Rattle.enfilade_core.specs.declared.tree.Node.{Node}
use Rattle.enfilade_core.specs.Rows.{Shape}
use Rattle.enfilade_core.specs.BalanceState.{tree_allows}
use Rattle.doc_table.specs.declared.rows.DocumentRow.{DocumentRow}
use Rattle.doc_table.specs.DocumentRows.{root_in}
use Rattle.tree_world.specs.Trees.{document_allows, is_marked}

-- the tree of none of these documents allows a step
abbrev pub AreIdle : List (Shape ℕ) → List (DocumentRow Node) → List (List ℕ) → Type 0
AreIdle nodes documents marks = list_any (document_allows nodes documents) marks ≡ false

-- the last of so many marks is of a document whose tree allows a step
pub record IsLastDue (nodes : List (Shape ℕ)) (documents : List (DocumentRow Node)) (due : List (List ℕ)) (count : ℕ) : Type 0 where
  pub before : ℕ
  pub document : List ℕ
  pub is : count ≡ before + 1
  pub last : slice_get due before ≡ Some document
  pub allows : document_allows nodes documents document ≡ true

-- a marked document whose tree allows a step, and its root
pub record IsDueTree (nodes : List (Shape ℕ)) (documents : List (DocumentRow Node)) (due : List (List ℕ)) (it : List ℕ × Node) : Type 0 where
  pub root : root_in documents it.0 ≡ Some it.1
  pub allows : tree_allows nodes it.1.0 ≡ true
  pub marked : IsTrue (is_marked due it.0)

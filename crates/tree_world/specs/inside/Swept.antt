-- Trees after a sweep.
use Rattle.std.specs.Prelude.{◌≡◌, ℕ, List, length, map, All}
use Rattle.enfilade_core.specs.declared.tree.Node.{Node}
use Rattle.enfilade_core.specs.Rows.{Shape, rows_of}
use Rattle.enfilade_core.specs.Planes.{content_widths, text_widths, key_widths}
use Rattle.enfilade_core.specs.BalanceState.{tree_debt, tree_allows}
use Rattle.enfilade_core.specs.Summary.{depth_of}
use Rattle.enfilade_sweep.specs.Sweep.{IsSweptTree, numbers, reached_count, unreached_count}
use Rattle.granfilade.specs.Content.{ContentTree}
use Rattle.spanfilade.specs.Index.{IndexTree}
use Rattle.poom.specs.Laid.{IsRoot}
use Rattle.doc_table.specs.declared.rows.DocumentRow.{DocumentRow}
use Rattle.tree_world.specs.Condition.{roots_in}

-- the tree of contents, and an index, as they were among the nodes that their roots reach
abbrev pub IsSweptContent : (old new : ContentTree) → Type 0
IsSweptContent old new = IsSweptTree content_widths old.nodes old.root new.nodes new.root

abbrev pub IsSweptIndex : (old new : IndexTree) → Type 0
IsSweptIndex old new = IsSweptTree key_widths old.nodes old.root.0 new.nodes new.root.0

-- So is the tree of each document, whose root is at the document's place among these; nodes that documents share are
-- there once.
pub record AreSweptDocuments (old : List (Shape ℕ)) (documents : List (DocumentRow Node)) (new : List (Shape ℕ)) (roots : List Node) : Type 0 where
  pub long : length roots ≡ length documents
  pub each : All (λ (root : Node). IsRoot new root.0) roots
  pub rows : map (rows_of new) (numbers roots) ≡ map (rows_of old) (roots_in documents)
  pub owed : map (tree_debt new) (numbers roots) ≡ map (tree_debt old) (roots_in documents)
  pub allowed : map (tree_allows new) (numbers roots) ≡ map (tree_allows old) (roots_in documents)
  pub deep : map (depth_of text_widths new) (numbers roots) ≡ map (depth_of text_widths old) (roots_in documents)
  pub count : length new ≡ reached_count old (roots_in documents)
  pub none_left : unreached_count new (numbers roots) ≡ 0

-- Trees that have the rows of other trees, whatever nodes hold them.
use Rattle.std.specs.Prelude.{◌≡◌, ℕ, List, All}
use Rattle.enfilade_core.specs.declared.tree.Node.{Node}
use Rattle.granfilade.specs.Content.{tree_rows}
use Rattle.poom.specs.Laid.{IsRoot}
use Rattle.doc_table.specs.declared.rows.DocumentRow.{DocumentRow}
use Rattle.doc_table.specs.DocumentRows.{documents_in, content_in, published_in}
use Rattle.spanfilade.specs.Index.{rows_in_index}
use Rattle.tree_world.specs.Trees.{Trees, text_in, links_in}

-- Each tree has the rows that it had, and each document the text and the links that it had; the roots are roots of
-- documents. The tables are as they were but for the roots.
pub record SameRows (before after : Trees) : Type 0 where
  pub contents : tree_rows after.contents ≡ tree_rows before.contents
  pub content : after.content ≡ before.content
  pub documents : documents_in after.documents ≡ documents_in before.documents
  pub counts : (document : List ℕ) → content_in after.documents document ≡ content_in before.documents document
  pub marks : (document : List ℕ) → published_in after.documents document ≡ published_in before.documents document
  pub texts : (document : List ℕ) → text_in after document ≡ text_in before document
  pub links : (document : List ℕ) → links_in after document ≡ links_in before document
  pub roots : All (λ (row : DocumentRow Node). IsRoot after.nodes row.root.0) after.documents
  pub index : rows_in_index after.index ≡ rows_in_index before.index
  pub link_table : after.links.links ≡ before.links.links
  pub from : rows_in_index after.links.from ≡ rows_in_index before.links.from
  pub to : rows_in_index after.links.to ≡ rows_in_index before.links.to
  pub three : rows_in_index after.links.three ≡ rows_in_index before.links.three
  pub access : after.access ≡ before.access
  pub counted : after.counted ≡ before.counted
  pub sessions : after.sessions ≡ before.sessions

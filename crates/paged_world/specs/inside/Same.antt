-- Trees that hold what a world's own do, whatever nodes and rows hold it. Only private functions cite this.
use Rattle.std.specs.Prelude.{◌≡◌, ℕ, List, [], ◌∷◌, map, All}
use Rattle.enfilade_core.specs.declared.tree.Node.{Node}
use Rattle.enfilade_core.specs.Rows.{Shape, rows_of}
use Rattle.granfilade.specs.Content.{ContentTree, content}
use Rattle.poom.specs.Laid.{IsRoot}
use Rattle.page_tables.specs.declared.tables.TableDocument.{TableDocument}
use Rattle.page_tables.specs.Plain.{PlainTables}
use Rattle.tree_compare.specs.RowAddresses.{ShowSame}
use Rattle.tree_world.specs.Trees.{Trees}
use Rattle.world_pages.specs.Pages.{tables_of_world}

-- a document's root as a node
abbrev pub root_of_row : TableDocument → Node
root_of_row row = record { 0 = row.root }

-- a row but for its root
abbrev pub without_root : TableDocument → TableDocument
without_root row = record row { root = 0 }

-- each root is a document's
abbrev pub AreRoots : List (Shape ℕ) → List TableDocument → Type 0
AreRoots nodes rows = All (λ (row : TableDocument). IsRoot nodes row.root) rows

-- each document shows the same text and the same links as the one at its place among others
abbrev pub ShowAllSame : List (Shape ℕ) → List TableDocument → List (Shape ℕ) → List TableDocument → Type 0
ShowAllSame nodes [] others read = Unit {0}
ShowAllSame nodes (row ∷ rows) others [] = Unit {0}
ShowAllSame nodes (row ∷ rows) others (other ∷ read) = ShowSame (rows_of nodes row.root) (rows_of others other.root) × ShowAllSame nodes rows others read

-- A tree of contents, nodes of documents and tables hold what the world's do: the same documents, each with as many bytes and
-- showing the same; the same links; and the same bytes at the same addresses.
pub record HoldSame (world : Trees) (contents : ContentTree) (nodes : List (Shape ℕ)) (tables : PlainTables) : Type 0 where
  pub documents : map without_root (tables_of_world world).documents ≡ map without_root tables.documents
  pub links : (tables_of_world world).links ≡ tables.links
  pub bytes : content world.contents ≡ content contents
  pub shown : ShowAllSame world.nodes (tables_of_world world).documents nodes tables.documents

-- What loading asks of trees and tables that were read, before a world may stand in them.
use Rattle.std.specs.Prelude.{ℕ, List, map, All}
use Rattle.tumbler.specs.ListView.{ListView}
use Rattle.enfilade_core.specs.Rows.{Shape, rows_of}
use Rattle.granfilade.specs.Content.{ContentTree}
use Rattle.spanfilade.specs.Index.{IndexTree}
use Rattle.poom.specs.Laid.{texts}
use Rattle.links.specs.LinkLists.{HoldsRuns}
use Rattle.world_rules.specs.World.{LinkRow}
use Rattle.page_tables.specs.declared.tables.TableDocument.{TableDocument}
use Rattle.page_tables.specs.Plain.{PlainLink, PlainTables}
use Rattle.page_trees.specs.Trees.{PlainTrees}
use Rattle.table_checks.specs.Sound as tables
use Rattle.content_checks.specs.Sound as contents
use Rattle.index_checks.specs.Covered.{IsCovered}

-- nodes and the number of the root among them, as the owner of contents shows them, and as that of an index does
abbrev pub content_tree : List (Shape (ListView ℕ)) → ℕ → ContentTree
content_tree nodes root = record { nodes = nodes; root = root }

abbrev pub index_tree : List (Shape (List ℕ)) → ℕ → IndexTree
index_tree nodes root = record { nodes = nodes; root = record { 0 = root } }

-- a link of the tables as a plain world has it
abbrev pub link_row : PlainLink → LinkRow
link_row link = record { id = link.id; home = link.home; from = link.from; to = link.to; three = link.three }

abbrev pub link_rows : PlainTables → List LinkRow
link_rows tables = map link_row tables.links

-- all content that the document shows is in the index for it
abbrev pub CoversText : IndexTree → List (Shape ℕ) → TableDocument → Type 0
CoversText index nodes row = All (IsCovered index row.document) (texts (rows_of nodes row.root))

-- The tables are right by themselves; the contents have the documents' bytes, and each document's tree shows what is there;
-- the index of spans covers what the documents show; and the index of each end has exactly the links' runs of that end.
pub record AreSound (trees : PlainTrees) : Type 0 where
  pub tables : tables.AreSound trees.tables
  pub contents : contents.AreSound trees.granfilade trees.poom trees.tables
  pub covered : All (CoversText (index_tree trees.spanfilade trees.tables.spanfilade) trees.poom) trees.tables.documents
  pub from : HoldsRuns 1 (link_rows trees.tables) (index_tree trees.from trees.tables.from)
  pub to : HoldsRuns 2 (link_rows trees.tables) (index_tree trees.to trees.tables.to)
  pub three : HoldsRuns 3 (link_rows trees.tables) (index_tree trees.three trees.tables.three)

-- The trees and tables that streams spell.
use Rattle.std.specs.Prelude.{◌≡◌, ℕ, ◌<◌, List, [], length, map, Option, Some, None, slice_index_or}
use Rattle.tumbler.specs.ListView.{ListView}
use Rattle.enfilade_core.specs.Rows.{Shape}
use Rattle.enfilade_core.specs.Planes.{content_widths, text_widths, key_widths}
use Rattle.node_pages.specs.NodeBytes.{content_row_bytes, text_row_bytes, key_row_bytes, IsContentRow, IsTextRow, IsKeyRow}
use Rattle.node_pages.specs.Streams.{Spells}
use Rattle.page_journal.specs.Pages.{Bytes}
use Rattle.page_chains.specs.Chains.{PlainChain}
use Rattle.page_tables.specs.declared.tables.TableDocument.{TableDocument}
use Rattle.page_tables.specs.Plain.{PlainTables, plain_tables}
use Rattle.page_tables.specs.TableBytes.{AreTablesOf}
use Rattle.page_trees.specs.declared.trees.PageTrees.{PageTrees}

-- the nodes of the six arenas, in the order of the header's streams, and the tables
pub record PlainTrees : Type 0 where
  pub granfilade : List (Shape (ListView ℕ))
  pub poom : List (Shape ℕ)
  pub spanfilade : List (Shape (List ℕ))
  pub from : List (Shape (List ℕ))
  pub to : List (Shape (List ℕ))
  pub three : List (Shape (List ℕ))
  pub tables : PlainTables

abbrev pub plain_trees : PageTrees → PlainTrees
plain_trees trees = record {
  granfilade = trees.granfilade;
  poom = trees.poom;
  spanfilade = trees.spanfilade;
  from = trees.from;
  to = trees.to;
  three = trees.three;
  tables = plain_tables trees.tables;
}

-- the stream of this place
abbrev pub stream : List PlainChain → ℕ → Bytes
stream chains k = (slice_index_or chains k (record { numbers = []; bytes = [] })).bytes

-- nodes of contents, of documents and of keys whose stream these bytes are
abbrev pub AreContents : List (Shape (ListView ℕ)) → Bytes → Type 0
AreContents nodes bytes = Spells content_widths IsContentRow content_row_bytes nodes bytes

abbrev pub AreTexts : List (Shape ℕ) → Bytes → Type 0
AreTexts nodes bytes = Spells text_widths IsTextRow text_row_bytes nodes bytes

abbrev pub AreKeys : List (Shape (List ℕ)) → Bytes → Type 0
AreKeys nodes bytes = Spells key_widths IsKeyRow key_row_bytes nodes bytes

-- there are seven streams, and each spells what stands at its place
pub record AreStreams (chains : List PlainChain) (trees : PlainTrees) : Type 0 where
  pub seven : length chains ≡ 7
  pub granfilade : AreContents trees.granfilade (stream chains 0)
  pub poom : AreTexts trees.poom (stream chains 1)
  pub spanfilade : AreKeys trees.spanfilade (stream chains 2)
  pub from : AreKeys trees.from (stream chains 3)
  pub to : AreKeys trees.to (stream chains 4)
  pub three : AreKeys trees.three (stream chains 5)
  pub tables : AreTablesOf trees.tables (stream chains 6)

-- each root is a node of its arena
pub record HaveRoots (trees : PlainTrees) : Type 0 where
  pub documents : (k : ℕ) (row : TableDocument) → k < length trees.tables.documents → row ≡ slice_index_or trees.tables.documents k row → row.root < length trees.poom
  pub granfilade : trees.tables.granfilade < length trees.granfilade
  pub spanfilade : trees.tables.spanfilade < length trees.spanfilade
  pub from : trees.tables.from < length trees.from
  pub to : trees.tables.to < length trees.to
  pub three : trees.tables.three < length trees.three

-- the streams spell these trees, and each root is there
pub record AreTrees (chains : List PlainChain) (trees : PlainTrees) : Type 0 where
  pub streams : AreStreams chains trees
  pub roots : HaveRoots trees

-- the trees that were found are what the streams spell, and have the header's position; or the streams spell no trees
abbrev pub AreFound : List PlainChain → ℕ → Option PageTrees → Type 0
AreFound chains position (Some found) = AreTrees chains (plain_trees found) × (found.position ≡ position)
AreFound chains position None = (trees : PlainTrees) → ¬ AreTrees chains trees

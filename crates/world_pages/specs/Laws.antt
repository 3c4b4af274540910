-- The trees and tables of a store pass the tests that loading makes.
use Rattle.std.specs.Prelude.{◌≡◌, ℕ, ◌<◌, List, length, All}
use Rattle.std.specs.Ordering.{nat_cmp}
use Rattle.std.specs.Cmp.Lexicographic.{slice_cmp}
use Rattle.std.specs.List.Sorted.{IsStrictlySortedBy}
use Rattle.febe_data.specs.Plain.{PlainEntry}
use Rattle.doc_table.specs.DocumentRows.{documents_in}
use Rattle.links.specs.LinkLists.{IsLink, HoldsRuns, ids_in}
use Rattle.world_rules.specs.World.{empty_world}
use Rattle.world_rules.specs.Apply.{world_of}
use Rattle.world_rules.specs.Placed.{AllPlaced}
use Rattle.world_rules.specs.FlatView.{FlatView}
use Rattle.tree_world.specs.Trees.{Trees, AreSound}
use Rattle.tree_world.specs.Standing.{Stands}
use Rattle.page_trees.specs.Trees.{PlainTrees, HaveRoots}
use Rattle.table_checks.specs.Sound as tables
use Rattle.content_checks.specs.Sound as contents
use Rattle.green_flush.specs.Sound.{index_tree, link_rows, CoversText}
use Rattle.green_flush.specs.Sound as loading
use Rattle.world_pages.specs.Pages.{pages_of_world}

-- ---- trees of a store

-- the roots of the trees that are no document's are nodes of their arenas
pub record RootsAreBelow (trees : Trees) : Type 0 where
  pub contents : trees.contents.root < length trees.contents.nodes
  pub index : trees.index.root.0 < length trees.index.nodes
  pub from : trees.links.from.root.0 < length trees.links.from.nodes
  pub to : trees.links.to.root.0 < length trees.links.to.nodes
  pub three : trees.links.three.root.0 < length trees.links.three.nodes

-- the tables of documents and of links ascend, each once, and links have runs that a link may have
pub record AreInOrder (trees : Trees) : Type 0 where
  pub documents : IsStrictlySortedBy (slice_cmp nat_cmp) (documents_in trees.documents)
  pub links : IsStrictlySortedBy (slice_cmp nat_cmp) (ids_in trees.links.links)
  pub runs : All IsLink trees.links.links

-- The trees stand for the world that a history of placed changes made, and keep to what trees keep to by themselves.
pub record AreStored (trees : Trees) (view : FlatView) : Type 0 where
  pub history : List PlainEntry
  pub placed : AllPlaced empty_world history
  pub world : view.world ≡ world_of history
  pub stands : Stands trees view
  pub sound : AreSound trees
  pub in_order : AreInOrder trees
  pub roots : RootsAreBelow trees

-- this holds of the pages of all such trees
abbrev pub HoldsOfStored : (PlainTrees → Type 0) → Type 0
HoldsOfStored Holds = (trees : Trees) (view : FlatView) → AreStored trees view → Holds (pages_of_world trees)

-- ---- the laws

-- each root is a node of its arena
abbrev pub RootsAreThere : Type 0
RootsAreThere = HoldsOfStored HaveRoots

-- the tables are right by themselves
abbrev pub TablesAreSound : Type 0
TablesAreSound = HoldsOfStored (λ trees. tables.AreSound trees.tables)

-- the contents have the documents' bytes, and each document's tree shows what is there
abbrev pub ContentsAreSound : Type 0
ContentsAreSound = HoldsOfStored (λ trees. contents.AreSound trees.granfilade trees.poom trees.tables)

-- the index of spans covers what documents show
abbrev pub ShownIsCovered : Type 0
ShownIsCovered = HoldsOfStored (λ trees. All (CoversText (index_tree trees.spanfilade trees.tables.spanfilade) trees.poom) trees.tables.documents)

-- the index of each end has exactly the links' runs of that end
pub record HoldEnds (trees : PlainTrees) : Type 0 where
  pub from : HoldsRuns 1 (link_rows trees.tables) (index_tree trees.from trees.tables.from)
  pub to : HoldsRuns 2 (link_rows trees.tables) (index_tree trees.to trees.tables.to)
  pub three : HoldsRuns 3 (link_rows trees.tables) (index_tree trees.three trees.tables.three)

abbrev pub EndsAreHeld : Type 0
EndsAreHeld = HoldsOfStored HoldEnds

-- all that loading asks
abbrev pub StoredAreSound : Type 0
StoredAreSound = HoldsOfStored loading.AreSound

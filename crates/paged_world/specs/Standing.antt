-- Trees on pages, the worlds that they stand for, and how a world's own trees have grown from them.
use Rattle.std.specs.Prelude.{◌≡◌, ◌⊎◌, List, Option, None, Some}
use Rattle.febe_data.specs.Plain.{PlainEntry}
use Rattle.enfilade_core.specs.Exchange.{Grows}
use Rattle.world_rules.specs.World.{World, empty_world}
use Rattle.world_rules.specs.Apply.{world_of}
use Rattle.world_rules.specs.Placed.{AllPlaced}
use Rattle.world_rules.specs.FlatView.{FlatView}
use Rattle.page_trees.specs.Trees.{PlainTrees}
use Rattle.tree_world.specs.Trees.{Trees}
use Rattle.tree_world.specs.Standing.{Stands}
use Rattle.tree_world.specs.Nodes.{WorldNodes}
use Rattle.tree_world.specs.Condition.{Condition, condition_of}
use Rattle.world_pages.specs.Pages.{pages_of_world}
use Rattle.green_flush.specs.Loads.{TreesAt}
use Rattle.green_flush.specs.Standing.{FlushView}

-- ---- what trees stand for

-- two worlds have the same documents, rows, bytes and links; what is published, who has what open, and the accounts, are not
-- asked
pub record HaveSame (one other : World) : Type 0 where
  pub documents : one.documents ≡ other.documents
  pub rows : one.rows ≡ other.rows
  pub bytes : one.bytes ≡ other.bytes
  pub links : one.links ≡ other.links

-- The trees stand for the world's documents, rows, bytes and links: beside some marks of what is published, and some table of who
-- has what open, they are a store's trees, and stand for a world that has the same of these.
pub record StandFor (plain : PlainTrees) (world : World) : Type 0 where
  pub trees : Trees
  pub view : FlatView
  pub are : pages_of_world trees ≡ plain
  pub stand : Stands trees view
  pub same : HaveSame view.world world

-- the trees with these pages are in this condition, which does not depend on anything beside them
pub record AreIn (plain : PlainTrees) (condition : Condition) : Type 0 where
  pub trees : Trees
  pub are : pages_of_world trees ≡ plain
  pub condition_is : condition ≡ condition_of trees

-- the view is that of a history of placed changes
pub record IsOfPlaced (view : FlatView) : Type 0 where
  pub history : List PlainEntry
  pub placed : AllPlaced empty_world history
  pub world : view.world ≡ world_of history

-- ---- how nodes have grown

-- these are the nodes of the trees' arenas
pub record HaveNodes (plain : PlainTrees) (nodes : WorldNodes) : Type 0 where
  pub contents : plain.granfilade ≡ nodes.contents
  pub documents : plain.poom ≡ nodes.documents
  pub index : plain.spanfilade ≡ nodes.index
  pub from : plain.from ≡ nodes.from
  pub to : plain.to ≡ nodes.to
  pub three : plain.three ≡ nodes.three

-- in each arena the nodes of the trees on pages are there as they were, and others may have come in behind them
pub record HaveGrownFrom (plain : PlainTrees) (nodes : WorldNodes) : Type 0 where
  pub contents : Grows plain.granfilade nodes.contents
  pub documents : Grows plain.poom nodes.documents
  pub index : Grows plain.spanfilade nodes.index
  pub from : Grows plain.from nodes.from
  pub to : Grows plain.to nodes.to
  pub three : Grows plain.three nodes.three

-- Where the next save goes on from trees that the pages hold, the world's nodes have grown from theirs. Else it writes every
-- stream anew, whatever the nodes are.
abbrev pub MayGoOn : FlushView → Option TreesAt → WorldNodes → Type 0
MayGoOn flush now nodes = (at : TreesAt) → now ≡ Some at → (flush.pages.kept ≡ None) ⊎ HaveGrownFrom at.trees nodes

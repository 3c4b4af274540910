-- The nodes of a world's six arenas, and how they grow.
use Rattle.std.specs.Prelude.{ℕ, List}
use Rattle.tumbler.specs.ListView.{ListView}
use Rattle.enfilade_core.specs.Rows.{Shape}
use Rattle.enfilade_core.specs.Exchange.{Grows}
use Rattle.tree_world.specs.Trees.{Trees}

-- the nodes, in the order in which they came in: of the tree of contents, of all documents' trees, of the index of
-- documents, and of the indexes of the three ends of links
pub record WorldNodes : Type 0 where
  pub contents : List (Shape (ListView ℕ))
  pub documents : List (Shape ℕ)
  pub index : List (Shape (List ℕ))
  pub from : List (Shape (List ℕ))
  pub to : List (Shape (List ℕ))
  pub three : List (Shape (List ℕ))

abbrev pub nodes_in : Trees → WorldNodes
nodes_in trees = record {
  contents = trees.contents.nodes;
  documents = trees.nodes;
  index = trees.index.nodes;
  from = trees.links.from.nodes;
  to = trees.links.to.nodes;
  three = trees.links.three.nodes;
}

-- in each arena all nodes that were there are there as they were, and others may have come in behind them
pub record AllGrown (old new : WorldNodes) : Type 0 where
  pub contents : Grows old.contents new.contents
  pub documents : Grows old.documents new.documents
  pub index : Grows old.index new.index
  pub from : Grows old.from new.from
  pub to : Grows old.to new.to
  pub three : Grows old.three new.three

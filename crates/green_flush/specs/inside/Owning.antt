-- Trees that were read, as their owners hold them. Only private functions cite this.
use Rattle.std.specs.Prelude.{◌≡◌}
use Rattle.page_tables.specs.Plain.{plain_tables}
use Rattle.page_trees.specs.Trees.{PlainTrees}
use Rattle.green_flush.specs.Sound.{content_tree, index_tree}
use Rattle.green_flush.specs.declared.owned.Owned.{Owned}
use Rattle.green_flush.specs.declared.trees.Trees.{Trees}

-- their nodes and tables
abbrev pub plain_owned : Owned → PlainTrees
plain_owned owned = record {
  granfilade = owned.granfilade.nodes;
  poom = owned.poom;
  spanfilade = owned.spanfilade.nodes;
  from = owned.from.nodes;
  to = owned.to.nodes;
  three = owned.three.nodes;
  tables = plain_tables owned.tables;
}

-- each tree has the root that the tables name
pub record AreRooted (owned : Owned) : Type 0 where
  pub granfilade : owned.granfilade ≡ content_tree owned.granfilade.nodes owned.tables.granfilade
  pub spanfilade : owned.spanfilade ≡ index_tree owned.spanfilade.nodes owned.tables.spanfilade
  pub from : owned.from ≡ index_tree owned.from.nodes owned.tables.from
  pub to : owned.to ≡ index_tree owned.to.nodes owned.tables.to
  pub three : owned.three ≡ index_tree owned.three.nodes owned.tables.three

-- these are the trees
pub record AreOwned (owned : Owned) (trees : Trees) : Type 0 where
  pub granfilade : trees.granfilade ≡ owned.granfilade
  pub poom : trees.poom ≡ owned.poom
  pub spanfilade : trees.spanfilade ≡ owned.spanfilade
  pub from : trees.from ≡ owned.from
  pub to : trees.to ≡ owned.to
  pub three : trees.three ≡ owned.three

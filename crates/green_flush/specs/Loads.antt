-- What loading gives of pages.
use Rattle.std.specs.Prelude.{◌≡◌, ℕ, List, Option, Some, None}
use Rattle.page_journal.specs.Pages.{Pages}
use Rattle.page_chains.specs.Chains.{PlainChain}
use Rattle.page_chains.specs.Headers.{HasHeader}
use Rattle.page_tables.specs.TableBytes.{AreTablesOf}
use Rattle.page_trees.specs.Trees.{PlainTrees, HaveRoots, AreTrees}
use Rattle.green_flush.specs.declared.trees.Trees.{Trees}
use Rattle.green_flush.specs.Sound.{AreSound, content_tree, index_tree}

-- trees, and how many entries of the log they stand for
pub record TreesAt : Type 0 where
  pub trees : PlainTrees
  pub position : ℕ

-- The pages hold these trees at this position: a header, whose streams spell them, and they pass the tests.
pub record HasTrees (pages : Pages) (at : TreesAt) : Type 0 where
  pub chains : List PlainChain
  pub header : HasHeader pages chains at.position
  pub are : AreTrees chains at.trees
  pub sound : AreSound at.trees

-- loading gives these trees; or nothing, where the pages hold no trees
abbrev pub Loads : Pages → Option TreesAt → Type 0
Loads pages (Some at) = HasTrees pages at
Loads pages None = (at : TreesAt) → ¬ HasTrees pages at

-- these are the trees, and the bytes of their tables
pub record ArePlain (trees : Trees) (plain : PlainTrees) : Type 0 where
  pub granfilade : trees.granfilade ≡ content_tree plain.granfilade plain.tables.granfilade
  pub poom : trees.poom ≡ plain.poom
  pub spanfilade : trees.spanfilade ≡ index_tree plain.spanfilade plain.tables.spanfilade
  pub from : trees.from ≡ index_tree plain.from plain.tables.from
  pub to : trees.to ≡ index_tree plain.to plain.tables.to
  pub three : trees.three ≡ index_tree plain.three plain.tables.three
  pub tables : AreTablesOf plain.tables trees.tables.items

-- these are the trees, with their roots, and they pass the tests of loading
pub record AreLoaded (trees : Trees) (plain : PlainTrees) : Type 0 where
  pub are : ArePlain trees plain
  pub roots : HaveRoots plain
  pub sound : AreSound plain

-- so are what was loaded, if anything was
abbrev pub HasLoaded : Option (Trees × ℕ) → Type 0
HasLoaded None = Unit {0}
HasLoaded (Some loaded) = (plain : PlainTrees) × AreLoaded loaded.0 plain

-- what was loaded is this
abbrev pub AreThat : Option (Trees × ℕ) → Option TreesAt → Type 0
AreThat None None = Unit {0}
AreThat (Some loaded) (Some at) = ArePlain loaded.0 at.trees × (loaded.1 ≡ at.position)
AreThat None (Some at) = ⊥
AreThat (Some loaded) None = ⊥

-- what was loaded is what the pages give: the trees that they hold; or nothing, where they hold none
abbrev pub IsLoaded : Pages → Option (Trees × ℕ) → Type 0
IsLoaded pages loaded = (now : Option TreesAt) × AreThat loaded now × Loads pages now

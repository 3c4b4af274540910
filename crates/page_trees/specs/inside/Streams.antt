-- What seven streams spell, before it is asked whether the roots are there.
use Rattle.std.specs.Prelude.{◌≡◌, ℕ, List, Option, Some, None}
use Rattle.page_chains.specs.Chains.{PlainChain}
use Rattle.page_trees.specs.declared.trees.PageTrees.{PageTrees}
use Rattle.page_trees.specs.Trees.{PlainTrees, plain_trees, AreStreams}

-- the trees that were found are what the streams spell; or they spell no trees
abbrev pub AreSpelled : List PlainChain → ℕ → Option PageTrees → Type 0
AreSpelled chains position (Some found) = AreStreams chains (plain_trees found) × (found.position ≡ position)
AreSpelled chains position None = (trees : PlainTrees) → ¬ AreStreams chains trees

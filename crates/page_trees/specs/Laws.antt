-- The law of trees on streams.
use Rattle.std.specs.Prelude.{◌≡◌, List}
use Rattle.page_chains.specs.Chains.{PlainChain}
use Rattle.page_trees.specs.Trees.{PlainTrees, AreStreams}

-- streams spell the nodes of one list of arenas, and one tables, at most
abbrev pub OneTrees : Type 0
OneTrees = (chains : List PlainChain) (one other : PlainTrees) → AreStreams chains one → AreStreams chains other → one ≡ other

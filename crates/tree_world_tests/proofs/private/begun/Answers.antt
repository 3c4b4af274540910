use Rattle.std.proofs.lemmas.Result.{IfOk-weaker}
use Rattle.world_rules.specs.FlatView.{nothing_yet}
use Rattle.tree_world.specs.Trees.{Trees}
use Rattle.tree_world.specs.Standing.{Stands}
use Rattle.tree_world_tests.specs.Stood.{StandsForSome}
use Rattle.tree_world_tests.proofs.private.begun.Goals as goal

pub returns : goal.returns
returns c = IfOk-weaker c.new.result (λ (made : Trees). Stands made nothing_yet) (λ (made : Trees). StandsForSome (Stands made)) (λ made stands. record { view = nothing_yet; stands = stands }) c.new.ensures

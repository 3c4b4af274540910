use Rattle.tree_world.specs.Standing.{Stands}
use Rattle.tree_world_tests.specs.Stood.{StandsForSome}
use Rattle.tree_world_tests.proofs.private.make_links.Given as goal

abbrev pub invariant-loop-number : goal.invariant-loop-number
invariant-loop-number l = StandsForSome (Stands l.world)

use Rattle.std.proofs.Common.{subst}
use Rattle.tree_world.specs.Trees.{AreSound}
use Rattle.tree_world.proofs.world.TreeWorld.trees_are_sound.Goals as goal

pub returns : goal.returns
returns c = subst AreSound c.self.view_is c.self.invariant

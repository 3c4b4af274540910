use Rattle.tree_world.proofs.Conditions.{nodes_are_reached}
use Rattle.tree_world.proofs.laws.nodes_are_reached.Goals as goal

pub returns : goal.returns
returns c = nodes_are_reached c.args.world.now

use Rattle.poom_compare.proofs.Worlds.{of_world}
use Rattle.poom_compare.proofs.laws.relation_of_world.Goals as goal

pub returns : goal.returns
returns c = of_world

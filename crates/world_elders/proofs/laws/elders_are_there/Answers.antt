use Rattle.world_elders.proofs.Elders.{elders_are_there}
use Rattle.world_elders.proofs.laws.elders_are_there.Goals as goal

pub returns : goal.returns
returns c = elders_are_there

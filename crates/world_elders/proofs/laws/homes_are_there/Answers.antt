use Rattle.world_elders.proofs.Whole.{homes_are_there}
use Rattle.world_elders.proofs.laws.homes_are_there.Goals as goal

pub returns : goal.returns
returns c = homes_are_there

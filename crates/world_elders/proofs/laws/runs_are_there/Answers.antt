use Rattle.world_elders.proofs.Whole.{runs_are_there}
use Rattle.world_elders.proofs.laws.runs_are_there.Goals as goal

pub returns : goal.returns
returns c = runs_are_there

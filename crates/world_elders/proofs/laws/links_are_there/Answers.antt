use Rattle.world_elders.proofs.Listed.{links_are_there}
use Rattle.world_elders.proofs.laws.links_are_there.Goals as goal

pub returns : goal.returns
returns c = links_are_there

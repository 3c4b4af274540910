use Rattle.world_elders.proofs.Listed.{bytes_are_there}
use Rattle.world_elders.proofs.laws.bytes_are_there.Goals as goal

pub returns : goal.returns
returns c = bytes_are_there

use Rattle.world_elders.proofs.Whole.{bytes_are_owned}
use Rattle.world_elders.proofs.laws.bytes_are_owned.Goals as goal

pub returns : goal.returns
returns c = bytes_are_owned

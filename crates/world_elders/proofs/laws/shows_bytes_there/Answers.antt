use Rattle.world_elders.proofs.Whole.{shows_bytes_there}
use Rattle.world_elders.proofs.laws.shows_bytes_there.Goals as goal

pub returns : goal.returns
returns c = shows_bytes_there

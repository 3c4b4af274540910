use Rattle.world_pages.proofs.Stored.{roots_are_there}
use Rattle.world_pages.proofs.laws.roots_are_there.Goals as goal

pub returns : goal.returns
returns c = roots_are_there

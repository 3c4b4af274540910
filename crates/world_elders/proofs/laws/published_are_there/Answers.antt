use Rattle.world_rules.proofs.Publishing.{published_there}
use Rattle.world_elders.proofs.laws.published_are_there.Goals as goal

pub returns : goal.returns
returns c = published_there

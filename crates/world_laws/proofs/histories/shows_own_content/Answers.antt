use Rattle.world_rules.proofs.Fresh.{shows_own_content}
use Rattle.world_laws.proofs.histories.shows_own_content.Goals as goal

pub returns : goal.returns
returns c = shows_own_content

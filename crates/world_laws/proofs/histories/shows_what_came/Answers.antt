use Rattle.world_rules.proofs.Fresh.{shows_what_came}
use Rattle.world_laws.proofs.histories.shows_what_came.Goals as goal

pub returns : goal.returns
returns c = shows_what_came

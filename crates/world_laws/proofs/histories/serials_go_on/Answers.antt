use Rattle.world_rules.proofs.Serials.{serials_go_on}
use Rattle.world_laws.proofs.histories.serials_go_on.Goals as goal

pub returns : goal.returns
returns c = serials_go_on

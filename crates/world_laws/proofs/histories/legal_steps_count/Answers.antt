use Rattle.world_rules.proofs.Serials.{legal_steps_count}
use Rattle.world_laws.proofs.histories.legal_steps_count.Goals as goal

pub returns : goal.returns
returns c = legal_steps_count

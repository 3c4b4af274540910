use Rattle.world_rules.proofs.Recovered.{recovered_is_placed}
use Rattle.world_laws.proofs.histories.recovered_is_placed.Goals as goal

pub returns : goal.returns
returns c = recovered_is_placed

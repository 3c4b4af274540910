use Rattle.world_rules.proofs.Serials.{recovered_counts}
use Rattle.world_laws.proofs.histories.recovered_counts.Goals as goal

pub returns : goal.returns
returns c = recovered_counts

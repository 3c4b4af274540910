use Rattle.world_rules.proofs.Kept.{kept_again}
use Rattle.world_laws.proofs.histories.kept_again.Goals as goal

pub returns : goal.returns
returns c = kept_again

use Rattle.world_rules.proofs.Orderly.{next_is_new}
use Rattle.world_laws.proofs.histories.next_is_new.Goals as goal

pub returns : goal.returns
returns c = next_is_new

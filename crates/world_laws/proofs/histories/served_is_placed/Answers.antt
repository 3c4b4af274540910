use Rattle.world_rules.proofs.Placed.{served_is_placed}
use Rattle.world_laws.proofs.histories.served_is_placed.Goals as goal

pub returns : goal.returns
returns c = served_is_placed

use Rattle.world_rules.proofs.SwappedBack.{swaps_back}
use Rattle.world_laws.proofs.histories.swaps_back.Goals as goal

pub returns : goal.returns
returns c = swaps_back

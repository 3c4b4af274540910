use Rattle.world_rules.proofs.SwappedBack.{empty_block_stays}
use Rattle.world_laws.proofs.histories.empty_block_stays.Goals as goal

pub returns : goal.returns
returns c = empty_block_stays

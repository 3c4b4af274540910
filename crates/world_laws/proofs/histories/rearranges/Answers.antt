use Rattle.world_rules.proofs.Rearranged.{rearranges}
use Rattle.world_laws.proofs.histories.rearranges.Goals as goal

pub returns : goal.returns
returns c = rearranges

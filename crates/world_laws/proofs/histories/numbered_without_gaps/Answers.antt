use Rattle.world_rules.proofs.Orderly.{numbered_without_gaps}
use Rattle.world_laws.proofs.histories.numbered_without_gaps.Goals as goal

pub returns : goal.returns
returns c = numbered_without_gaps

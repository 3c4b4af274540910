use Rattle.world_rules.proofs.Kept.{keeps_contents}
use Rattle.world_laws.proofs.histories.keeps_contents.Goals as goal

pub returns : goal.returns
returns c = keeps_contents

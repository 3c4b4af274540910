use Rattle.world_rules.proofs.Deleted.{deletes_span}
use Rattle.world_laws.proofs.histories.deletes_span.Goals as goal

pub returns : goal.returns
returns c = deletes_span

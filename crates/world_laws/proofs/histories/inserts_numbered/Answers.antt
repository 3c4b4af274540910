use Rattle.world_rules.proofs.Inserted.{inserts_numbered}
use Rattle.world_laws.proofs.histories.inserts_numbered.Goals as goal

pub returns : goal.returns
returns c = inserts_numbered

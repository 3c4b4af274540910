use Rattle.world_rules.proofs.Inserted.{inserts_rows}
use Rattle.world_laws.proofs.histories.inserts_rows.Goals as goal

pub returns : goal.returns
returns c = inserts_rows

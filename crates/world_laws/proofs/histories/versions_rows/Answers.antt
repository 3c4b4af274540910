use Rattle.world_rules.proofs.Versioned.{versions_rows}
use Rattle.world_laws.proofs.histories.versions_rows.Goals as goal

pub returns : goal.returns
returns c = versions_rows

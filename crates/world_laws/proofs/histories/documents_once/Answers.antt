use Rattle.world_rules.proofs.Orderly.{documents_once}
use Rattle.world_laws.proofs.histories.documents_once.Goals as goal

pub returns : goal.returns
returns c = documents_once

use Rattle.world_rules.proofs.Orderly.{rows_have_documents}
use Rattle.world_laws.proofs.histories.rows_have_documents.Goals as goal

pub returns : goal.returns
returns c = rows_have_documents

use Rattle.world_rules.proofs.TextWith.{retrieve_after_insert}
use Rattle.world_laws.proofs.histories.retrieve_after_insert.Goals as goal

pub returns : goal.returns
returns c = retrieve_after_insert

use Rattle.world_rules.proofs.Orderly.{text_in_order}
use Rattle.world_laws.proofs.histories.text_in_order.Goals as goal

pub returns : goal.returns
returns c = text_in_order

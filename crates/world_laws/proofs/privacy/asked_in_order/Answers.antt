use Rattle.world_laws.proofs.AskedInOrder.{asked_in_order}
use Rattle.world_laws.proofs.privacy.asked_in_order.Goals as goal

pub returns : goal.returns
returns c = asked_in_order

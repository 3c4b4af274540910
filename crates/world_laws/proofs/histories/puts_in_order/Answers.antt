use Rattle.world_rules.proofs.PutInOrder.{puts_in_order}
use Rattle.world_laws.proofs.histories.puts_in_order.Goals as goal

pub returns : goal.returns
returns c = puts_in_order

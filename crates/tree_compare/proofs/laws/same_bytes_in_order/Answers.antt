use Rattle.tree_compare.proofs.InOrder.{same-in-order}
use Rattle.tree_compare.proofs.laws.same_bytes_in_order.Goals as goal

pub returns : goal.returns
returns c = same-in-order

use Rattle.tumbler.proofs.Sums.{sums_keep_order}
use Rattle.tumbler.proofs.laws.sums_keep_order.Goals as goal

pub returns : goal.returns
returns c = sums_keep_order

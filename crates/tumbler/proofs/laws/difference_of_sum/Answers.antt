use Rattle.tumbler.proofs.SumOrder.{difference_of_sum}
use Rattle.tumbler.proofs.laws.difference_of_sum.Goals as goal

pub returns : goal.returns
returns c = difference_of_sum

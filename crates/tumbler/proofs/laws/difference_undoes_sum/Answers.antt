use Rattle.tumbler.proofs.Differences.{difference_undoes_sum}
use Rattle.tumbler.proofs.laws.difference_undoes_sum.Goals as goal

pub returns : goal.returns
returns c = difference_undoes_sum

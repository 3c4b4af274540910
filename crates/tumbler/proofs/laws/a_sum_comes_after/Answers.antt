use Rattle.tumbler.proofs.Sums.{sum_comes_after}
use Rattle.tumbler.proofs.laws.a_sum_comes_after.Goals as goal

pub returns : goal.returns
returns c = sum_comes_after

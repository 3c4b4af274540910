use Rattle.tumbler.proofs.Sums.{sums_fit_together}
use Rattle.tumbler.proofs.laws.sums_fit_together.Goals as goal

pub returns : goal.returns
returns c = sums_fit_together

use Rattle.tumbler.proofs.Sums.{sums_cancel}
use Rattle.tumbler.proofs.laws.sums_cancel.Goals as goal

pub returns : goal.returns
returns c = sums_cancel

use Rattle.tumbler.proofs.Sums.{sums_associate}
use Rattle.tumbler.proofs.laws.sums_associate.Goals as goal

pub returns : goal.returns
returns c = sums_associate

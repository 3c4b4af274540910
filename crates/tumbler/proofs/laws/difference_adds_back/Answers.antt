use Rattle.tumbler.proofs.Differences.{difference_adds_back}
use Rattle.tumbler.proofs.laws.difference_adds_back.Goals as goal

pub returns : goal.returns
returns c = difference_adds_back

use Rattle.tumbler.proofs.Tumblers.{sum-is_tumbler}
use Rattle.tumbler.proofs.laws.sum_is_a_tumbler.Goals as goal

pub returns : goal.returns
returns c = sum-is_tumbler

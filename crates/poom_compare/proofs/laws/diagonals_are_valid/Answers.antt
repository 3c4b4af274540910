use Rattle.poom_compare.proofs.Valid.{are_valid}
use Rattle.poom_compare.proofs.laws.diagonals_are_valid.Goals as goal

pub returns : goal.returns
returns c = are_valid

use Rattle.tumbler.proofs.Covered.{covered_fits}
use Rattle.tumbler.proofs.laws.covered_fits.Goals as goal

pub returns : goal.returns
returns c = covered_fits

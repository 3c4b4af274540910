use Rattle.tumbler.proofs.SumOrder.{fits_exactly}
use Rattle.tumbler.proofs.laws.fits_exactly.Goals as goal

pub returns : goal.returns
returns c = fits_exactly

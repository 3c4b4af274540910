use Rattle.entry_fits.proofs.Along.{one_more_fits}
use Rattle.entry_fits.proofs.laws.one_more_fits.Goals as goal

pub returns : goal.returns
returns c = one_more_fits

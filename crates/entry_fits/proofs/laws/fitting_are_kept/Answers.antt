use Rattle.entry_fits.proofs.Along.{fitting_are_kept}
use Rattle.entry_fits.proofs.laws.fitting_are_kept.Goals as goal

pub returns : goal.returns
returns c = fitting_are_kept

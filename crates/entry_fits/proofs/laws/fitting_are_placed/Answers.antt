use Rattle.entry_fits.proofs.Along.{fitting_are_placed}
use Rattle.entry_fits.proofs.laws.fitting_are_placed.Goals as goal

pub returns : goal.returns
returns c = fitting_are_placed

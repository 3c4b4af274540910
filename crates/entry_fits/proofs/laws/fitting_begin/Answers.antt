use Rattle.entry_fits.proofs.Sessions.{fitting_begin}
use Rattle.entry_fits.proofs.laws.fitting_begin.Goals as goal

pub returns : goal.returns
returns c = fitting_begin

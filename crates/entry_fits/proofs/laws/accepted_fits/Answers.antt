use Rattle.entry_fits.proofs.Accepted.{accepted_fits}
use Rattle.entry_fits.proofs.laws.accepted_fits.Goals as goal

pub returns : goal.returns
returns c = accepted_fits

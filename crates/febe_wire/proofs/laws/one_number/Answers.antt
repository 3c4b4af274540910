use Rattle.febe_wire.proofs.PartScans.{number_alone}
use Rattle.febe_wire.proofs.laws.one_number.Goals as goal

pub returns : goal.returns
returns c = number_alone

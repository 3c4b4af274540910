use Rattle.febe_wire.proofs.PartScans.{tumbler_alone}
use Rattle.febe_wire.proofs.laws.one_tumbler.Goals as goal

pub returns : goal.returns
returns c = tumbler_alone

use Rattle.febe_wire.proofs.RequestLaws.{one_form}
use Rattle.febe_wire.proofs.laws.one_form.Goals as goal

pub returns : goal.returns
returns c = one_form

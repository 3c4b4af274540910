use Rattle.febe_wire.proofs.PartScans.{spans_alone}
use Rattle.febe_wire.proofs.laws.one_spans.Goals as goal

pub returns : goal.returns
returns c = spans_alone

use Rattle.febe_feed.proofs.Malformed.{one_fault}
use Rattle.febe_feed.proofs.laws.one_fault.Goals as goal

pub returns : goal.returns
returns c = one_fault

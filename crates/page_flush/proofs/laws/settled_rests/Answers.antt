use Rattle.std.proofs.Common.{inl}
use Rattle.page_flush.proofs.laws.settled_rests.Goals as goal

pub returns : goal.returns
returns g c was saved settled = inl (inl settled)

use Rattle.std.proofs.Common.{length, refl}
use Rattle.page_chains.proofs.Writing.{last_grows}
use Rattle.page_chains.proofs.laws.last_page_grows.Goals as goal

pub returns : goal.returns
returns c old new named last next front bytes more is stay there = last_grows old new named last next (length bytes) front bytes more is refl stay there

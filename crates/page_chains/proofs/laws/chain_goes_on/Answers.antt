use Rattle.std.proofs.Common.{length, refl}
use Rattle.page_chains.proofs.Writing.{chain_on}
use Rattle.page_chains.proofs.laws.chain_goes_on.Goals as goal

pub returns : goal.returns
returns c old new named last front fresh bytes more is stay are has enough = chain_on old new named last (length bytes) front fresh bytes more is refl stay are has enough

use Rattle.page_chains.proofs.Chaining.{chain_stays as law}
use Rattle.page_chains.proofs.laws.chain_stays.Goals as goal

pub returns : goal.returns
returns c old new named left numbers bytes stay is = law old new named left numbers bytes stay is

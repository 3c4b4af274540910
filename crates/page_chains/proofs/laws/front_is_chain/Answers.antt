use Rattle.page_chains.proofs.Chaining.{front_chain as law}
use Rattle.page_chains.proofs.laws.front_is_chain.Goals as goal

pub returns : goal.returns
returns c pages named left short front rest bytes below enough is = law pages named left short front rest bytes below enough is

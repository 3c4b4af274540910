use Rattle.page_chains.proofs.Chaining.{one_chain as law}
use Rattle.page_chains.proofs.laws.one_chain.Goals as goal

pub returns : goal.returns
returns c pages named left one other bytes more a b = law pages named left one other bytes more a b

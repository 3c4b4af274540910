use Rattle.page_chains.proofs.Chaining.{chain_long as law}
use Rattle.page_chains.proofs.laws.chain_is_long.Goals as goal

pub returns : goal.returns
returns c pages named left numbers bytes is = law pages named left numbers bytes is

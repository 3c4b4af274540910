use Rattle.page_chains.proofs.Writing.{chain_written as law}
use Rattle.page_chains.proofs.laws.chain_is_written.Goals as goal

pub returns : goal.returns
returns c pages numbers bytes has are enough = law pages numbers bytes has are enough

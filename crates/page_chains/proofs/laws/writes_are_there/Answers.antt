use Rattle.page_chains.proofs.Writing.{writes_there as law}
use Rattle.page_chains.proofs.laws.writes_are_there.Goals as goal

pub returns : goal.returns
returns c pages numbers bytes are = law pages numbers bytes are

use Rattle.page_chains.proofs.Writing.{writes_whole as law}
use Rattle.page_chains.proofs.laws.writes_are_whole.Goals as goal

pub returns : goal.returns
returns c numbers bytes are = law numbers bytes are

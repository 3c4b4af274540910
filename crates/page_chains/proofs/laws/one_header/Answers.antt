use Rattle.page_chains.proofs.Heading.{one_header as law}
use Rattle.page_chains.proofs.laws.one_header.Goals as goal

pub returns : goal.returns
returns c pages one other position place a b = law pages one other position place a b

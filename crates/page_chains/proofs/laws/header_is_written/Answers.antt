use Rattle.page_chains.proofs.Heading.{header_written as law}
use Rattle.page_chains.proofs.laws.header_is_written.Goals as goal

pub returns : goal.returns
returns c pages starts chains position used there low few seven are distinct = law pages starts chains position used there low few seven are distinct

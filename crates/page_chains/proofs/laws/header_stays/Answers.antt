use Rattle.std.proofs.Common.{sym, ◌∙◌}
use Rattle.page_chains.proofs.Heading.{header_stays as law}
use Rattle.page_chains.proofs.laws.header_stays.Goals as goal

pub returns-clause-pages : goal.returns-clause-pages
returns-clause-pages c old new chains position stay is = law old new chains position stay is

pub returns-clause-more : goal.returns-clause-more
returns-clause-more c old new chains position extends is = law old new chains position (λ k page among there. extends k page there) is

pub returns-clause-same : goal.returns-clause-same
returns-clause-same c old new chains position same is = law new old chains position (λ k page among there. sym (same k) ∙ there) is

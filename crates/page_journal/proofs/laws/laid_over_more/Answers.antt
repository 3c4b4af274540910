use Rattle.page_journal.proofs.PageMaps.{laid_more}
use Rattle.page_journal.proofs.laws.laid_over_more.Goals as goal

pub returns : goal.returns
returns c less more writes extends = laid_more writes less more extends

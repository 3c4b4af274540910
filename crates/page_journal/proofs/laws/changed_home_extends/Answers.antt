use Rattle.page_journal.proofs.PageMaps.{laid_over_itself}
use Rattle.page_journal.proofs.laws.changed_home_extends.Goals as goal

pub returns : goal.returns
returns c home writes are = laid_over_itself writes home are.each

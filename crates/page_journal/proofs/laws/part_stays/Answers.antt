use Rattle.page_journal.proofs.PageMaps.{part_laid}
use Rattle.page_journal.proofs.laws.part_stays.Goals as goal

pub returns : goal.returns
returns c part pages writes extends apart = part_laid part pages writes extends apart

use Rattle.page_journal.proofs.Keeping.{at_gives}
use Rattle.page_journal.proofs.laws.unfinished_gives.Goals as goal

pub returns : goal.returns
returns g c before writes unfinished image is = at_gives _ c.args.journal.now.stage before writes unfinished.kept.are.each unfinished.images image is

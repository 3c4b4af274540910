use Rattle.page_saves.proofs.Keeping.{resting-gives}
use Rattle.page_saves.proofs.laws.resting_gives.Goals as goal

pub returns : goal.returns
returns g c was saved rests image is = resting-gives _ c.args.journal.now was saved rests image is

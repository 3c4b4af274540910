use Rattle.page_saves.proofs.Keeping.{resting-gives}
use Rattle.page_flush.proofs.laws.resting_gives.Goals as goal

pub returns : goal.returns
returns g c was saved rests image is = resting-gives _ c.args.flush.now.journal was saved rests image is

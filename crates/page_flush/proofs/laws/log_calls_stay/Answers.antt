use Rattle.page_saves.proofs.Keeping.{resting-stays}
use Rattle.page_flush.proofs.laws.log_calls_stay.Goals as goal

pub returns : goal.returns
returns g c was saved leaves rests = resting-stays _ _ c.args.flush.now.journal was saved (g.met.D.Disk.is_disk c.args.new.now) leaves rests

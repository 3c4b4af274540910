use Rattle.page_journal.specs.Images.{IsShut}
use Rattle.page_journal.proofs.Keeping.{home_stays, at_stays}
use Rattle.page_journal.proofs.laws.log_calls_stay.Goals as goal

pub returns-clause-clean : goal.returns-clause-clean
returns-clause-clean g c home leaves clean = record {
  idle = clean.idle;
  images = home_stays _ _ home IsShut (g.met.D.Disk.is_disk c.args.new.now) leaves clean.images;
}

pub returns-clause-unfinished : goal.returns-clause-unfinished
returns-clause-unfinished g c before writes leaves unfinished = record {
  kept = unfinished.kept;
  images = at_stays _ _ c.args.journal.now.stage before writes (g.met.D.Disk.is_disk c.args.new.now) leaves unfinished.images;
}

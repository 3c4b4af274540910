use Rattle.page_journal.specs.Images.{IsShut}
use Rattle.page_journal.proofs.Gives.{shut_gives}
use Rattle.page_journal.proofs.Steps.{home_reads}
use Rattle.page_journal.proofs.laws.clean_gives.Goals as goal

pub returns-clause-images : goal.returns-clause-images
returns-clause-images g c home clean image is = shut_gives home image (clean.images.each image is)

pub returns-clause-reads : goal.returns-clause-reads
returns-clause-reads g c home clean = home_reads _ home IsShut (g.met.D.Disk.is_disk c.args.disk.now) clean.images

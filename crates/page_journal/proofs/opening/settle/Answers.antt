-- Nothing is written after the first sync, so Home stays as it read.
use Rattle.page_journal.proofs.Opens.{settled_areas}
use Rattle.page_journal.proofs.opening.settle.Goals as goal

pub returns-clause-settled : goal.returns-clause-settled
returns-clause-settled g c =
    settled_areas _ _ _ (g.met.D.Disk.is_disk c.sync-2.new.self) c.sync.ensures.reads c.sync-2.ensures.reads c.in_ok-sync.ensures.durable c.in_ok-sync-2.ensures.durable c.sync-2.ensures.crash

-- The gate stays in front of the record, which is then found behind it.
use Rattle.std.proofs.Common.{length}
use Rattle.page_journal.specs.Images.{IsShut, IsAjar}
use Rattle.page_journal.proofs.Answering.{on_ok, on_err}
use Rattle.page_journal.proofs.Journals.{torn_shut, written_staged}
use Rattle.page_journal.proofs.Recorded.{kept_staged}
use Rattle.page_journal.proofs.Steps.{torn_journal, kept_all, written_journal}
use Rattle.page_journal.proofs.phases.stage_record.Goals as goal

pub returns-clause-any_moment : goal.returns-clause-any_moment
returns-clause-any_moment g c home have =
    torn_journal _ _ home 4096 (length c.args.kept.now) IsShut IsShut have c.write_and_sync.ensures.crash
    (λ old new was torn. torn_shut (length c.args.kept.now) old new was torn)

pub returns-clause-staged : goal.returns-clause-staged
returns-clause-staged g c home writes is have =
    on_ok _ _ _ _ c.write_and_sync.ensures.written c.write_and_sync.ensures.durable
    (λ written durable. written_journal _ _ home 4096 (length c.args.kept.now) c.args.kept.now IsShut (IsAjar writes) (g.met.D.Disk.is_disk c.args.disk.now) (g.met.D.Disk.is_disk c.write_and_sync.new.disk) have c.write_and_sync.ensures.told c.write_and_sync.ensures.crash written durable
    (λ old new was put. written_staged c.args.kept.now old new writes was put (λ rest. kept_staged c.args.kept.now rest writes is)))

pub returns-clause-shut : goal.returns-clause-shut
returns-clause-shut g c home have =
    on_err _ _ (kept_all _ _ _ (g.met.D.Disk.is_disk c.write_and_sync.new.disk) have c.write_and_sync.ensures.told (returns-clause-any_moment g c home have))

-- The gate may have any byte until it is written, and then it is 0.
use Rattle.std.proofs.Common.{[], ◌∷◌}
use Rattle.page_journal.specs.Images.{IsShut, IsAjar}
use Rattle.page_journal.proofs.Answering.{on_ok, on_err}
use Rattle.page_journal.proofs.Journals.{torn_ajar, written_shut}
use Rattle.page_journal.proofs.Steps.{torn_journal, kept_all, written_journal}
use Rattle.page_journal.proofs.phases.close_gate.Goals as goal

pub returns-clause-any_moment : goal.returns-clause-any_moment
returns-clause-any_moment g c home writes have =
    torn_journal _ _ home 0 1 (IsAjar writes) (IsAjar writes) have c.write_and_sync.ensures.crash (torn_ajar writes)

pub returns-clause-closed : goal.returns-clause-closed
returns-clause-closed g c home writes have =
    on_ok _ _ _ _ c.write_and_sync.ensures.written c.write_and_sync.ensures.durable
    (λ written durable. written_journal _ _ home 0 1 (0 ∷ []) (IsAjar writes) IsShut (g.met.D.Disk.is_disk c.args.disk.now) (g.met.D.Disk.is_disk c.write_and_sync.new.disk) have c.write_and_sync.ensures.told c.write_and_sync.ensures.crash written durable (λ old new was put. written_shut old new put))

pub returns-clause-ajar : goal.returns-clause-ajar
returns-clause-ajar g c home writes have =
    on_err _ _ (kept_all _ _ _ (g.met.D.Disk.is_disk c.write_and_sync.new.disk) have c.write_and_sync.ensures.told (returns-clause-any_moment g c home writes have))

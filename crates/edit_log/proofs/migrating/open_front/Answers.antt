-- Whatever byte the gate is until it is written, the area is closed, or open as it will be.
use Rattle.std.proofs.Common.{[], ◌∷◌}
use Rattle.green_io.specs.Disk.{Written, Torn}
use Rattle.edit_log.specs.inside.Ends.{IsThat}
use Rattle.edit_log.specs.inside.Migration.{IsClosedOr}
use Rattle.edit_log.proofs.Answering.{on_ok}
use Rattle.edit_log.proofs.Fronts.{torn_opening, written_opening}
use Rattle.edit_log.proofs.SecondSteps.{torn_beside, done_beside}
use Rattle.edit_log.proofs.migrating.open_front.Goals as goal

pub returns-clause-any_moment : goal.returns-clause-any_moment
returns-clause-any_moment g c log rest images =
    torn_beside _ _ log (Torn 0 1) (IsThat (0 ∷ rest)) (IsClosedOr (1 ∷ rest)) images c.write_and_sync.ensures.crash (torn_opening rest)

pub returns-clause-opened : goal.returns-clause-opened
returns-clause-opened g c log rest images =
    on_ok _ _ _ _ c.write_and_sync.ensures.written c.write_and_sync.ensures.durable
    (λ written durable. done_beside _ _ log (Written 0 (1 ∷ [])) (IsThat (0 ∷ rest)) (IsThat (1 ∷ rest)) (g.met.D.Disk.is_disk c.args.disk.now) (g.met.D.Disk.is_disk c.write_and_sync.new.disk) images written durable c.write_and_sync.ensures.others (written_opening rest))

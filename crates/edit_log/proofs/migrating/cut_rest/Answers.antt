-- A cut behind the gate leaves it.
use Rattle.std.proofs.Common.{[], ◌∷◌}
use Rattle.green_io.specs.Disk.{CutTo, PartlyCut}
use Rattle.edit_log.specs.inside.Ends.{IsThat}
use Rattle.edit_log.specs.inside.Migration.{BeginsShut}
use Rattle.edit_log.proofs.Answering.{on_ok}
use Rattle.edit_log.proofs.Fronts.{cut_shut, cut_to_gate}
use Rattle.edit_log.proofs.SecondSteps.{torn_beside, done_beside}
use Rattle.edit_log.proofs.migrating.cut_rest.Goals as goal

pub returns-clause-any_moment : goal.returns-clause-any_moment
returns-clause-any_moment g c log images =
    torn_beside _ _ log (PartlyCut 1) BeginsShut BeginsShut images c.cut_and_sync.ensures.crash cut_shut

pub returns-clause-cut : goal.returns-clause-cut
returns-clause-cut g c log images =
    on_ok _ _ _ _ c.cut_and_sync.ensures.cut c.cut_and_sync.ensures.durable
    (λ cut durable. done_beside _ _ log (CutTo 1) BeginsShut (IsThat (0 ∷ [])) (g.met.D.Disk.is_disk c.args.disk.now) (g.met.D.Disk.is_disk c.cut_and_sync.new.disk) images cut durable c.cut_and_sync.ensures.others cut_to_gate)

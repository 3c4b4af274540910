-- The gate may have any byte until it is written, and then it is 0.
use Rattle.std.proofs.Common.{[], ◌∷◌, refl, subst}
use Rattle.green_io.specs.Disk.{Torn, Written}
use Rattle.edit_log.specs.Images.{IsShut, IsAjar}
use Rattle.edit_log.proofs.Answering.{on_ok, on_err}
use Rattle.edit_log.proofs.Parts.{torn_ajar, written_shut}
use Rattle.edit_log.proofs.Steps.{torn_images, kept_images, written_images}
use Rattle.edit_log.proofs.phases.close_gate.Goals as goal

pub returns-clause-any_moment : goal.returns-clause-any_moment
returns-clause-any_moment g c front body images =
    torn_images _ _ _ _ _ front (IsAjar front body) (IsAjar front body) images c.write_and_sync.ensures.crash
    (λ old new was torn. torn_ajar front body old new was (subst (λ at. Torn at 1 old new) images.at_end torn))

pub returns-clause-closed : goal.returns-clause-closed
returns-clause-closed g c front body images =
    on_ok _ _ _ _ c.write_and_sync.ensures.written c.write_and_sync.ensures.durable
    (λ written durable. written_images _ _ _ _ _ _ front front (IsAjar front body) (IsShut front) (g.met.D.Disk.is_disk c.args.disk.now) images c.write_and_sync.ensures.told written durable
    (λ old new was put. written_shut front body old new was (subst (λ at. Written at (0 ∷ []) old new) images.at_end put))
    images.at_end)

pub returns-clause-ajar : goal.returns-clause-ajar
returns-clause-ajar g c front body images =
    on_err _ _ (kept_images _ _ _ front (IsAjar front body) (g.met.D.Disk.is_disk c.write_and_sync.new.disk) images c.write_and_sync.ensures.told (returns-clause-any_moment g c front body images))

-- The gate may have any byte until it is written, and then it is 1, and the body behind it is in the log.
use Rattle.std.proofs.Common.{[], ◌∷◌, ◌++◌, refl, subst}
use Rattle.green_io.specs.Disk.{Torn, Written}
use Rattle.edit_log.specs.Images.{IsShut, IsAjar}
use Rattle.edit_log.proofs.Answering.{on_ok, on_err}
use Rattle.edit_log.proofs.Parts.{torn_ajar, written_open}
use Rattle.edit_log.proofs.Steps.{torn_images, kept_images, written_images}
use Rattle.edit_log.proofs.phases.open_gate.Goals as goal

pub returns-clause-any_moment : goal.returns-clause-any_moment
returns-clause-any_moment g c front body images =
    torn_images _ _ _ _ _ front (IsAjar front body) (IsAjar front body) images c.write_and_sync.ensures.crash
    (λ old new was torn. torn_ajar front body old new was (subst (λ at. Torn at 1 old new) images.at_end torn))

pub returns-clause-opened : goal.returns-clause-opened
returns-clause-opened g c front body images =
    on_ok _ _ _ _ c.write_and_sync.ensures.written c.write_and_sync.ensures.durable
    (λ written durable. written_images _ _ _ _ _ _ front (front ++ (1 ∷ body)) (IsAjar front body) (IsShut (front ++ (1 ∷ body))) (g.met.D.Disk.is_disk c.args.disk.now) images c.write_and_sync.ensures.told written durable
    (λ old new was put. written_open front body old new was (subst (λ at. Written at (1 ∷ []) old new) images.at_end put))
    refl)

pub returns-clause-ajar : goal.returns-clause-ajar
returns-clause-ajar g c front body images =
    on_err _ _ (kept_images _ _ _ front (IsAjar front body) (g.met.D.Disk.is_disk c.write_and_sync.new.disk) images c.write_and_sync.ensures.told (returns-clause-any_moment g c front body images))

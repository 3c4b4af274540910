-- The byte 0 stays in front of what is written, and is where the body is then found.
use Rattle.std.proofs.Common.{◌≡◌, ◌+◌, length, refl, subst, arith}
use Rattle.green_io.specs.Disk.{Torn, Written}
use Rattle.edit_log.specs.Images.{IsShut, IsAjar}
use Rattle.edit_log.proofs.Answering.{on_ok, on_err}
use Rattle.edit_log.proofs.Parts.{torn_shut, written_ajar}
use Rattle.edit_log.proofs.Steps.{torn_images, kept_images, written_images}
use Rattle.edit_log.proofs.phases.stage.Goals as goal

pub returns-clause-any_moment : goal.returns-clause-any_moment
returns-clause-any_moment g c front body parts small images =
    let at_is : c.saturating_add.result ≡ length front + 1 = omega (arith, small, images.at_end) in
    torn_images _ _ _ _ _ front (IsShut front) (IsShut front) images c.write_and_sync.ensures.crash
    (λ old new was torn. torn_shut front (length c.args.bytes.now) old new was (subst (λ at. Torn at (length c.args.bytes.now) old new) at_is torn))

pub returns-clause-staged : goal.returns-clause-staged
returns-clause-staged g c front body parts small images =
    let at_is : c.saturating_add.result ≡ length front + 1 = omega (arith, small, images.at_end) in
    on_ok _ _ _ _ c.write_and_sync.ensures.written c.write_and_sync.ensures.durable
    (λ written durable. written_images _ _ _ _ _ _ front front (IsShut front) (IsAjar front body) (g.met.D.Disk.is_disk c.args.disk.now) images c.write_and_sync.ensures.told written durable
    (λ old new was put. written_ajar front body c.args.bytes.now old new parts was (subst (λ at. Written at c.args.bytes.now old new) at_is put))
    images.at_end)

pub returns-clause-shut : goal.returns-clause-shut
returns-clause-shut g c front body parts small images =
    on_err _ _ (kept_images _ _ _ front (IsShut front) (g.met.D.Disk.is_disk c.write_and_sync.new.disk) images c.write_and_sync.ensures.told (returns-clause-any_moment g c front body parts small images))

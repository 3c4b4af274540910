-- A gate 0 that is there stays; else one is written.
use Rattle.green_io.specs.declared.disk.Area.TheVariants as area
use Rattle.green_io.specs.Areas.{is_same}
use Rattle.green_io.proofs.Beside.{looked_others, then_others}
use Rattle.green_io.proofs.Crash.{nothing_new, nothing_then}
use Rattle.edit_log.specs.Log.{IsEnd}
use Rattle.edit_log.specs.inside.Ends.{IsThat}
use Rattle.edit_log.specs.inside.Migration.{BeginsShut, Beside}
use Rattle.std.proofs.Common.{sym, subst}
use Rattle.edit_log.proofs.Fronts.{told_shut, that_end}
use Rattle.edit_log.proofs.SecondSteps.{read_beside, looked_images, images_weaker}
use Rattle.edit_log.proofs.migrating.shut_front.Goals as goal

pub returns-in_err-shut-clause-any_moment : goal.returns-in_err-shut-clause-any_moment
returns-in_err-shut-clause-any_moment g c log second ends images = nothing_new _ _ (Beside log IsEnd) c.is_shut.ensures.crash

pub returns-in_err-shut-clause-others : goal.returns-in_err-shut-clause-others
returns-in_err-shut-clause-others g c = looked_others (is_same area.Second) _ _ c.is_shut.ensures.reads c.is_shut.ensures.crash

pub returns-then-shut-clause-any_moment : goal.returns-then-shut-clause-any_moment
returns-then-shut-clause-any_moment g c log second ends images = nothing_new _ _ (Beside log IsEnd) c.is_shut.ensures.crash

pub returns-then-shut-clause-shut : goal.returns-then-shut-clause-shut
returns-then-shut-clause-shut g c log second ends images =
    let shut = told_shut (g.D.Disk.state c.args.disk.now).reads second c.in_ok-shut.shut (read_beside _ log (IsThat second) (g.met.D.Disk.is_disk c.args.disk.now) images) c.in_ok-shut.ensures.shut c.if-shut.true in
    images_weaker _ log (IsThat second) BeginsShut
    (looked_images _ _ (Beside log (IsThat second)) (g.met.D.Disk.is_disk c.is_shut.new.disk) c.is_shut.ensures.reads c.is_shut.ensures.crash images)
    (λ area is. subst BeginsShut (sym is) shut)

pub returns-then-shut-clause-others : goal.returns-then-shut-clause-others
returns-then-shut-clause-others g c = looked_others (is_same area.Second) _ _ c.is_shut.ensures.reads c.is_shut.ensures.crash

pub returns-clause-any_moment : goal.returns-clause-any_moment
returns-clause-any_moment g c log second ends images =
    let looked = looked_images _ _ (Beside log (IsThat second)) (g.met.D.Disk.is_disk c.is_shut.new.disk) c.is_shut.ensures.reads c.is_shut.ensures.crash images in
    nothing_then _ _ _ (Beside log IsEnd) c.is_shut.ensures.crash
    (c.shut_anew.ensures.any_moment log (images_weaker _ log (IsThat second) IsEnd looked (λ area is. that_end second area ends is)))

pub returns-clause-shut : goal.returns-clause-shut
returns-clause-shut g c log second ends images =
    let looked = looked_images _ _ (Beside log (IsThat second)) (g.met.D.Disk.is_disk c.is_shut.new.disk) c.is_shut.ensures.reads c.is_shut.ensures.crash images in
    c.shut_anew.ensures.shut log (images_weaker _ log (IsThat second) IsEnd looked (λ area is. that_end second area ends is))

pub returns-clause-others : goal.returns-clause-others
returns-clause-others g c =
    then_others (is_same area.Second) _ _ _ (g.met.D.Disk.is_disk c.is_shut.new.disk)
    (looked_others (is_same area.Second) _ _ c.is_shut.ensures.reads c.is_shut.ensures.crash)
    c.shut_anew.ensures.others

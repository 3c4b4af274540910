-- Where the second area is open its log is read, and else that of before. Nothing was written before that.
use Rattle.std.proofs.Common.{sym, subst}
use Rattle.green_io.specs.declared.disk.Area.TheVariants as area
use Rattle.green_io.specs.Areas.{is_logged}
use Rattle.green_io.specs.Disk.{LeavesOnly}
use Rattle.green_io.proofs.Beside.{looked_others, then_others}
use Rattle.green_io.proofs.Crash.{nothing_then, now_was}
use Rattle.edit_log.specs.Images.{AsRead, HoldsAsRead}
use Rattle.edit_log.specs.Second.{HoldsWhole}
use Rattle.edit_log.proofs.Durable.{durable_where}
use Rattle.edit_log.proofs.opening.open_second.Goals as goal

pub open_old-requires-clause-log : goal.open_old-requires-clause-log
open_old-requires-clause-log g c =
    durable_where area.Log _ _ _ _ c.is_open.ensures.reads (now_was _ _ (g.met.D.Disk.is_disk c.is_open.new.disk) c.is_open.ensures.crash) c.requires

pub returns-then-opened-clause-any_moment : goal.returns-then-opened-clause-any_moment
returns-then-opened-clause-any_moment g c rows whole =
    let same = c.is_open.ensures.reads in
    nothing_then _ (g.D.Disk.state c.is_open.new.disk) _ (HoldsAsRead rows (g.D.Disk.state c.args.disk.now).reads) c.is_open.ensures.crash
    (subst (λ r. LeavesOnly (g.D.Disk.state c.is_open.new.disk) (g.D.Disk.state c.open_new.new.disk) (HoldsAsRead rows r)) same
    (c.open_new.ensures.any_moment rows (subst (λ r. AsRead r (HoldsWhole rows)) (sym same) whole)))

pub returns-then-opened-clause-others : goal.returns-then-opened-clause-others
returns-then-opened-clause-others g c =
    then_others is_logged _ (g.D.Disk.state c.is_open.new.disk) _ (g.met.D.Disk.is_disk c.is_open.new.disk)
    (looked_others is_logged _ _ c.is_open.ensures.reads c.is_open.ensures.crash)
    c.open_new.ensures.others

pub returns-clause-any_moment : goal.returns-clause-any_moment
returns-clause-any_moment g c rows whole =
    let same = c.is_open.ensures.reads in
    nothing_then _ (g.D.Disk.state c.is_open.new.disk) _ (HoldsAsRead rows (g.D.Disk.state c.args.disk.now).reads) c.is_open.ensures.crash
    (subst (λ r. LeavesOnly (g.D.Disk.state c.is_open.new.disk) (g.D.Disk.state c.open_old.new.disk) (HoldsAsRead rows r)) same
    (c.open_old.ensures.any_moment rows (subst (λ r. AsRead r (HoldsWhole rows)) (sym same) whole)))

pub returns-clause-others : goal.returns-clause-others
returns-clause-others g c =
    then_others is_logged _ (g.D.Disk.state c.is_open.new.disk) _ (g.met.D.Disk.is_disk c.is_open.new.disk)
    (looked_others is_logged _ _ c.is_open.ensures.reads c.is_open.ensures.crash)
    c.open_old.ensures.others

-- The log is in the second area once it is open there, and the area of before is emptied beside it.
use Rattle.std.proofs.Common.{IsSome, refl, sym, subst}
use Rattle.entry_codec.specs.Logged.{plain_log}
use Rattle.green_io.specs.declared.disk.Area.TheVariants as area
use Rattle.green_io.specs.Areas.{is_logged}
use Rattle.green_io.specs.Disk.{LeavesOnly, WhereTold}
use Rattle.green_io.proofs.Beside.{looked_others, then_others, area_others}
use Rattle.green_io.proofs.Crash.{nothing_then}
use Rattle.edit_log.specs.Images.{AsRead, HoldsAsRead}
use Rattle.edit_log.specs.Second.{HoldsWhole, ReadsIn, BothTold}
use Rattle.edit_log.specs.inside.Migration.{IsMovedBeside}
use Rattle.edit_log.proofs.Opens.{emptying_holds, emptied_open, emptied_reads}
use Rattle.edit_log.proofs.log.EditLog.open.Goals as goal

pub returns-in_err-opened-clause-any_moment : goal.returns-in_err-opened-clause-any_moment
returns-in_err-opened-clause-any_moment g c whole_rows whole =
    let same = c.sync.ensures.reads in
    let first = nothing_then (g.D.Disk.state c.args.disk.now) (g.D.Disk.state c.sync.new.self) (g.D.Disk.state c.open_second.new.disk) (HoldsAsRead whole_rows (g.D.Disk.state c.args.disk.now).reads) c.sync.ensures.crash
    (subst (λ r. LeavesOnly (g.D.Disk.state c.sync.new.self) (g.D.Disk.state c.open_second.new.disk) (HoldsAsRead whole_rows r)) same
    (c.open_second.ensures.any_moment whole_rows (subst (λ r. AsRead r (HoldsWhole whole_rows)) (sym same) whole))) in
    first

pub returns-in_err-empty_old-clause-any_moment : goal.returns-in_err-empty_old-clause-any_moment
returns-in_err-empty_old-clause-any_moment g c whole_rows whole =
    let same = c.sync.ensures.reads in
    let first = nothing_then (g.D.Disk.state c.args.disk.now) (g.D.Disk.state c.sync.new.self) (g.D.Disk.state c.open_second.new.disk) (HoldsAsRead whole_rows (g.D.Disk.state c.args.disk.now).reads) c.sync.ensures.crash
    (subst (λ r. LeavesOnly (g.D.Disk.state c.sync.new.self) (g.D.Disk.state c.open_second.new.disk) (HoldsAsRead whole_rows r)) same
    (c.open_second.ensures.any_moment whole_rows (subst (λ r. AsRead r (HoldsWhole whole_rows)) (sym same) whole))) in
    emptying_holds c.one_body.ensures c.body_says_length.ensures c.old_has_new.ensures (g.D.Disk.state c.args.disk.now) (g.D.Disk.state c.open_second.new.disk) (g.D.Disk.state c.empty_old.new.disk) c.in_ok-opened.opened.0 c.in_ok-opened.opened.0.read whole_rows (plain_log c.in_ok-opened.opened.1.items) first whole
    (subst (λ r. WhereTold r (ReadsIn c.in_ok-opened.opened.0.read (plain_log c.in_ok-opened.opened.1.items))) same c.in_ok-opened.ensures.entries) c.in_ok-opened.ensures.spelled c.in_ok-opened.ensures.few
    (λ told. c.in_ok-opened.ensures.stands (subst IsSome (sym same) told)) c.empty_old.ensures.others

pub returns-in_err-empty_old-clause-others : goal.returns-in_err-empty_old-clause-others
returns-in_err-empty_old-clause-others g c =
    then_others is_logged _ (g.D.Disk.state c.open_second.new.disk) _ (g.met.D.Disk.is_disk c.open_second.new.disk)
    (then_others is_logged _ (g.D.Disk.state c.sync.new.self) _ (g.met.D.Disk.is_disk c.sync.new.self) (looked_others is_logged _ _ c.sync.ensures.reads c.sync.ensures.crash) c.open_second.ensures.others)
    (area_others area.Log is_logged _ _ refl c.empty_old.ensures.others)

pub returns-clause-any_moment : goal.returns-clause-any_moment
returns-clause-any_moment g c whole_rows whole =
    let same = c.sync.ensures.reads in
    let first = nothing_then (g.D.Disk.state c.args.disk.now) (g.D.Disk.state c.sync.new.self) (g.D.Disk.state c.open_second.new.disk) (HoldsAsRead whole_rows (g.D.Disk.state c.args.disk.now).reads) c.sync.ensures.crash
    (subst (λ r. LeavesOnly (g.D.Disk.state c.sync.new.self) (g.D.Disk.state c.open_second.new.disk) (HoldsAsRead whole_rows r)) same
    (c.open_second.ensures.any_moment whole_rows (subst (λ r. AsRead r (HoldsWhole whole_rows)) (sym same) whole))) in
    emptying_holds c.one_body.ensures c.body_says_length.ensures c.old_has_new.ensures (g.D.Disk.state c.args.disk.now) (g.D.Disk.state c.open_second.new.disk) (g.D.Disk.state c.empty_old.new.disk) c.in_ok-opened.opened.0 c.in_ok-opened.opened.0.read whole_rows (plain_log c.in_ok-opened.opened.1.items) first whole
    (subst (λ r. WhereTold r (ReadsIn c.in_ok-opened.opened.0.read (plain_log c.in_ok-opened.opened.1.items))) same c.in_ok-opened.ensures.entries) c.in_ok-opened.ensures.spelled c.in_ok-opened.ensures.few
    (λ told. c.in_ok-opened.ensures.stands (subst IsSome (sym same) told)) c.empty_old.ensures.others

pub returns-clause-stands : goal.returns-clause-stands
returns-clause-stands g c told =
    emptied_open (g.D.Disk.state c.open_second.new.disk) (g.D.Disk.state c.empty_old.new.disk) _ (plain_log c.in_ok-opened.opened.1.items) (g.met.D.Disk.is_disk c.empty_old.new.disk) c.empty_old.ensures.others
    (c.in_ok-opened.ensures.stands (subst IsSome (sym c.sync.ensures.reads) told))

pub returns-clause-moved : goal.returns-clause-moved
returns-clause-moved g c =
    emptied_reads (g.D.Disk.state c.args.disk.now).reads (g.D.Disk.state c.open_second.new.disk).reads (g.D.Disk.state c.empty_old.new.disk).reads c.in_ok-opened.opened.0.read (plain_log c.in_ok-opened.opened.1.items)
    (subst (λ r. BothTold r (g.D.Disk.state c.open_second.new.disk).reads (IsMovedBeside c.in_ok-opened.opened.0.read (plain_log c.in_ok-opened.opened.1.items))) c.sync.ensures.reads c.in_ok-opened.ensures.moved)
    c.in_ok-empty_old.ensures.emptied

pub returns-clause-others : goal.returns-clause-others
returns-clause-others g c =
    then_others is_logged _ (g.D.Disk.state c.open_second.new.disk) _ (g.met.D.Disk.is_disk c.open_second.new.disk)
    (then_others is_logged _ (g.D.Disk.state c.sync.new.self) _ (g.met.D.Disk.is_disk c.sync.new.self) (looked_others is_logged _ _ c.sync.ensures.reads c.sync.ensures.crash) c.open_second.ensures.others)
    (area_others area.Log is_logged _ _ refl c.empty_old.ensures.others)

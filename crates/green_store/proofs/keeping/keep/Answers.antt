use Rattle.std.proofs.Common.{◌≡◌, ap}
use Rattle.green_io.specs.declared.disk.Area.TheVariants.{Second}
use Rattle.green_io.specs.Areas.{is_same}
use Rattle.green_io.proofs.Beside.{then_others}
use Rattle.edit_log.specs.declared.pending.Pending.TheVariants.{Nothing}
use Rattle.green_store.proofs.Mended.{mend_leaves, mend_opens, append_leaves, append_pends, not_gated, on_failed}
use Rattle.green_store.proofs.keeping.keep.Goals as goal

pub returns-in_default-clause-any_moment : goal.returns-in_default-clause-any_moment
returns-in_default-clause-any_moment g c rows pending row may has =
    mend_leaves (g.D.Disk.state c.args.disk.now) (g.D.Disk.state c.mend.new.disk) c.args.log.now c.mend.new.self c.mend.result rows row
    (λ idle. ap g.D.Disk.state (c.mend.ensures.untouched (not_gated c.args.log.now.pending idle)).1)
    c.mend.ensures.idle
    pending has (c.mend.ensures.any_moment rows)

pub returns-clause-any_moment : goal.returns-clause-any_moment
returns-clause-any_moment g c rows pending row may has =
    let a = g.D.Disk.state c.args.disk.now in
    let b = g.D.Disk.state c.mend.new.disk in
    let untouched = λ (idle : c.args.log.now.pending ≡ Nothing). ap g.D.Disk.state (c.mend.ensures.untouched (not_gated c.args.log.now.pending idle)).1 in
    append_leaves b (g.D.Disk.state c.append.new.disk) c.mend.new.self c.append.new.self rows pending row c.args.bytes.now.items may a
    (mend_leaves a b c.args.log.now c.mend.new.self c.mend.result rows row untouched c.mend.ensures.idle pending has (c.mend.ensures.any_moment rows))
    (c.append.ensures.any_moment rows row may
    (mend_opens a b c.args.log.now c.mend.new.self c.mend.result rows row untouched c.mend.ensures.idle pending has (c.in-Ok.ensures.done rows)))

pub returns-clause-done : goal.returns-clause-done
returns-clause-done g c rows pending row may has =
    let untouched = λ (idle : c.args.log.now.pending ≡ Nothing). ap g.D.Disk.state (c.mend.ensures.untouched (not_gated c.args.log.now.pending idle)).1 in
    c.append.ensures.done rows row may
    (mend_opens (g.D.Disk.state c.args.disk.now) (g.D.Disk.state c.mend.new.disk) c.args.log.now c.mend.new.self c.mend.result rows row untouched c.mend.ensures.idle pending has (c.in-Ok.ensures.done rows))

pub returns-clause-pending : goal.returns-clause-pending
returns-clause-pending g c rows pending row may has =
    let b = g.D.Disk.state c.mend.new.disk in
    let untouched = λ (idle : c.args.log.now.pending ≡ Nothing). ap g.D.Disk.state (c.mend.ensures.untouched (not_gated c.args.log.now.pending idle)).1 in
    on_failed c.append.result _ _ (append_pends b (g.D.Disk.state c.append.new.disk) c.mend.new.self c.append.new.self rows pending row c.args.bytes.now.items may)
    (c.append.ensures.pending rows row may
    (mend_opens (g.D.Disk.state c.args.disk.now) b c.args.log.now c.mend.new.self c.mend.result rows row untouched c.mend.ensures.idle pending has (c.in-Ok.ensures.done rows)))

pub returns-clause-others : goal.returns-clause-others
returns-clause-others g c =
    then_others (is_same Second) (g.D.Disk.state c.args.disk.now) (g.D.Disk.state c.mend.new.disk) (g.D.Disk.state c.append.new.disk) (g.met.D.Disk.is_disk c.mend.new.disk) c.mend.ensures.others c.append.ensures.others

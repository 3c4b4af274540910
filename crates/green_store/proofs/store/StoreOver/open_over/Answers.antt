-- What the two openings come to together. A whole log is read as its entries, which fit.
use Rattle.green_store.specs.Opening.{LeavesMisspelled}
use Rattle.green_store.proofs.Reopened.{fault_opens, opens_as}
use Rattle.green_store.proofs.ReadingPages.{fault_whole, fault_damaged, fault_failed, fault_left, fault_untouched, no_disk_any, moved_leaves, opened_keeps, opened_from, moment, opened_pages, opened_flushed, opened_damaged, opened_untouched}
use Rattle.green_store.proofs.store.StoreOver.open_over.Goals as goal

pub returns-in_err-log-clause-whole : goal.returns-in_err-log-clause-whole
returns-in_err-log-clause-whole g c rows whole =
    fault_opens c.one_reading.ensures c.in_err-log.field-0.0 c.from_residual.result (g.D.Disk.state c.args.disk.now).reads rows whole c.in_err-log.ensures.damaged c.from_residual.ensures.0 c.from_residual.ensures.1

pub returns-in_err-log-clause-untouched : goal.returns-in_err-log-clause-untouched
returns-in_err-log-clause-untouched g c =
    fault_untouched c.in_err-log.field-0.0 c.from_residual.result (g.D.Disk.state c.args.disk.now).reads (g.D.Disk.state c.open.new.disk).reads c.in_err-log.ensures.untouched c.from_residual.ensures.0 c.from_residual.ensures.1

pub returns-in_err-log-clause-left : goal.returns-in_err-log-clause-left
returns-in_err-log-clause-left g c =
    fault_left c.in_err-log.field-0.0 c.from_residual.result (g.D.Disk.state c.args.disk.now).reads (g.D.Disk.state c.open.new.disk).reads c.in_err-log.ensures.untouched c.in_err-log.ensures.found
    c.from_residual.ensures.0 c.from_residual.ensures.1

pub returns-in_err-pages-clause-whole : goal.returns-in_err-pages-clause-whole
returns-in_err-pages-clause-whole g c rows whole = fault_whole c.in_err-pages.field-0.0 c.from_residual-in_err-pages.result rows c.from_residual-in_err-pages.ensures.0 c.from_residual-in_err-pages.ensures.1

pub returns-in_err-pages-clause-damaged : goal.returns-in_err-pages-clause-damaged
returns-in_err-pages-clause-damaged g c = fault_damaged c.in_err-pages.field-0.0 c.from_residual-in_err-pages.result _ c.from_residual-in_err-pages.ensures.0 c.from_residual-in_err-pages.ensures.1

pub returns-in_err-pages-clause-untouched : goal.returns-in_err-pages-clause-untouched
returns-in_err-pages-clause-untouched g c =
    fault_damaged c.in_err-pages.field-0.0 c.from_residual-in_err-pages.result (λ at. LeavesMisspelled at (g.D.Disk.state c.args.disk.now).reads (g.D.Disk.state c.open_pages.new.disk).reads)
    c.from_residual-in_err-pages.ensures.0 c.from_residual-in_err-pages.ensures.1

pub returns-in_err-pages-clause-left : goal.returns-in_err-pages-clause-left
returns-in_err-pages-clause-left g c =
    moved_leaves c.from_residual-in_err-pages.result _ _ (g.D.Disk.state c.args.disk.now).reads (g.D.Disk.state c.open.new.disk).reads (g.D.Disk.state c.open_pages.new.disk).reads
    c.in_ok-log.ensures.entries c.in_ok-log.ensures.moved c.open_pages.ensures.others.reads

pub returns-in_err-pages-clause-any_moment : goal.returns-in_err-pages-clause-any_moment
returns-in_err-pages-clause-any_moment g c rows whole =
    moment c.one_reading.ensures c.old_has_new.ensures (g.D.Disk.state c.args.disk.now) (g.D.Disk.state c.open.new.disk) (g.D.Disk.state c.open_pages.new.disk) _ _ _ rows whole c.in_ok-log.ensures.entries c.in_ok-log.ensures.stands
    c.open_is_whole.ensures c.open_pages.ensures.others (c.in_ok-log.ensures.any_moment rows whole)

pub returns-in_err-pages-clause-failed : goal.returns-in_err-pages-clause-failed
returns-in_err-pages-clause-failed g c =
    fault_failed c.in_err-pages.field-0.0 c.from_residual-in_err-pages.result (g.D.Disk.fault_count c.args.disk.now) (g.D.Disk.fault_count c.open.new.disk) (g.D.Disk.fault_count c.open_pages.new.disk)
    c.open.ensures.never_falls c.in_err-pages.ensures.failed c.from_residual-in_err-pages.ensures.0 c.from_residual-in_err-pages.ensures.1

pub returns-clause-history : goal.returns-clause-history
returns-clause-history g c =
    opened_from c.old_has_new.ensures c.over.result (g.D.Disk.state c.args.disk.now).reads _ _ c.over.ensures.history c.over.ensures.moments c.over.ensures.fit c.in_ok-log.ensures.spelled c.in_ok-log.ensures.few c.in_ok-log.ensures.entries

pub returns-clause-keeps : goal.returns-clause-keeps
returns-clause-keeps g c =
    opened_keeps c.fitting_are_kept.ensures c.over.result (g.D.Disk.state c.args.disk.now) (g.D.Disk.state c.open.new.disk) (g.D.Disk.state c.open_pages.new.disk) _ _ (g.met.D.Disk.is_disk c.open_pages.new.disk)
    c.open_pages.ensures.others c.in_ok-log.ensures.stands c.over.ensures.log c.over.ensures.history c.over.ensures.moments c.over.ensures.fit

pub returns-clause-damaged : goal.returns-clause-damaged
returns-clause-damaged g c = opened_damaged c.over.result (g.D.Disk.state c.args.disk.now).reads _ _ c.in_ok-log.ensures.entries c.over.ensures.damaged

pub returns-clause-untouched : goal.returns-clause-untouched
returns-clause-untouched g c =
    opened_untouched c.one_reading.ensures c.over.result (g.D.Disk.state c.args.disk.now).reads (g.D.Disk.state c.open_pages.new.disk).reads _ _ c.in_ok-log.ensures.entries

pub returns-clause-left : goal.returns-clause-left
returns-clause-left g c =
    moved_leaves c.over.result _ _ (g.D.Disk.state c.args.disk.now).reads (g.D.Disk.state c.open.new.disk).reads (g.D.Disk.state c.open_pages.new.disk).reads
    c.in_ok-log.ensures.entries c.in_ok-log.ensures.moved c.open_pages.ensures.others.reads

pub returns-clause-whole : goal.returns-clause-whole
returns-clause-whole g c rows whole =
    opens_as c.one_reading.ensures c.over.result (g.D.Disk.state c.args.disk.now).reads _ _ rows whole c.in_ok-log.ensures.entries c.over.ensures.history c.over.ensures.moments c.over.ensures.damaged

pub returns-clause-any_moment : goal.returns-clause-any_moment
returns-clause-any_moment g c rows whole =
    moment c.one_reading.ensures c.old_has_new.ensures (g.D.Disk.state c.args.disk.now) (g.D.Disk.state c.open.new.disk) (g.D.Disk.state c.open_pages.new.disk) _ _ _ rows whole c.in_ok-log.ensures.entries c.in_ok-log.ensures.stands
    c.open_is_whole.ensures c.open_pages.ensures.others (c.in_ok-log.ensures.any_moment rows whole)

pub returns-clause-pages : goal.returns-clause-pages
returns-clause-pages g c =
    opened_pages (g.D.Disk.state c.open_pages.new.disk) c.over.result (g.D.Disk.state c.args.disk.now).reads (g.D.Disk.state c.open.new.disk).reads c.in_ok-pages.pages.flush c.in_ok-pages.pages.trees
    c.open.ensures.others.reads c.in_ok-pages.ensures.opened c.over.ensures.flush c.over.ensures.goes_on

pub returns-clause-flushed : goal.returns-clause-flushed
returns-clause-flushed g c =
    opened_flushed (g.D.Disk.state c.open_pages.new.disk) c.over.result (g.D.Disk.state c.args.disk.now).reads (g.D.Disk.state c.open.new.disk).reads c.in_ok-pages.pages.flush c.in_ok-pages.pages.trees _
    c.open.ensures.others.reads c.in_ok-pages.ensures.opened c.over.ensures.history c.over.ensures.flushed

pub returns-clause-failed : goal.returns-clause-failed
returns-clause-failed g c = no_disk_any c.over.result _ c.over.ensures.no_disk

-- The loop keeps every page but those that it writes, and the sync makes what Home reads stable.
use Rattle.std.proofs.Common.{refl, IsSome, sym, subst, arith}
use Rattle.green_io.specs.declared.disk.Area.TheVariants as area
use Rattle.green_io.specs.Areas.{is_same}
use Rattle.green_io.proofs.Beside.{untouched_others, then_looked_others}
use Rattle.green_io.proofs.Crash.{none_called, then_nothing, now_has}
use Rattle.page_journal.specs.Images.{IsMidway}
use Rattle.page_journal.proofs.Answering.{on_err}
use Rattle.page_journal.proofs.Recorded.{run_at, staged_long}
use Rattle.page_journal.proofs.Steps.{kept_all, laid_settled}
use Rattle.page_journal.proofs.phases.lay_pages.Goals as goal

pub returns-in_default-clause-any_moment : goal.returns-in_default-clause-any_moment
returns-in_default-clause-any_moment g c before writes is have = none_called _ (IsMidway writes before)

pub returns-in_default-clause-laid : goal.returns-in_default-clause-laid
returns-in_default-clause-laid g c before writes is have =
    let long = staged_long c.args.kept.now writes is in
    let short = c.in_default.ensures.short refl in
    absurd (omega (arith, long, short))

pub returns-in_default-clause-others : goal.returns-in_default-clause-others
returns-in_default-clause-others g c = untouched_others (is_same area.Home) _

pub returns-in_err-write_pages-clause-any_moment : goal.returns-in_err-write_pages-clause-any_moment
returns-in_err-write_pages-clause-any_moment g c before writes is have =
    c.write_pages.ensures.any_moment before writes (run_at _ _ c.args.kept.now writes c.in-Some.ensures.count c.in-Some.ensures.behind is) have

pub returns-in_err-write_pages-clause-midway : goal.returns-in_err-write_pages-clause-midway
returns-in_err-write_pages-clause-midway g c before writes is have =
    on_err _ _ (kept_all _ _ (IsMidway writes before) (g.met.D.Disk.is_disk c.write_pages.new.disk) have c.write_pages.ensures.told
    (c.write_pages.ensures.any_moment before writes (run_at _ _ c.args.kept.now writes c.in-Some.ensures.count c.in-Some.ensures.behind is) have))

pub returns-in_err-sync-clause-any_moment : goal.returns-in_err-sync-clause-any_moment
returns-in_err-sync-clause-any_moment g c before writes is have =
    then_nothing _ _ _ (IsMidway writes before) (c.write_pages.ensures.any_moment before writes (run_at _ _ c.args.kept.now writes c.in-Some.ensures.count c.in-Some.ensures.behind is) have) c.sync.ensures.crash

pub returns-in_err-sync-clause-midway : goal.returns-in_err-sync-clause-midway
returns-in_err-sync-clause-midway g c before writes is have =
    on_err _ _ (kept_all _ _ (IsMidway writes before) (g.met.D.Disk.is_disk c.sync.new.self) have
    (λ told. subst (λ r. IsSome r) (sym c.sync.ensures.reads) (c.write_pages.ensures.told told))
    (returns-in_err-sync-clause-any_moment g c before writes is have))

pub returns-in_err-sync-clause-others : goal.returns-in_err-sync-clause-others
returns-in_err-sync-clause-others g c = then_looked_others (is_same area.Home) _ _ _ c.write_pages.ensures.others c.sync.ensures.reads c.sync.ensures.crash

pub returns-clause-any_moment : goal.returns-clause-any_moment
returns-clause-any_moment g c before writes is have =
    then_nothing _ _ _ (IsMidway writes before) (c.write_pages.ensures.any_moment before writes (run_at _ _ c.args.kept.now writes c.in-Some.ensures.count c.in-Some.ensures.behind is) have) c.sync.ensures.crash

pub returns-clause-laid : goal.returns-clause-laid
returns-clause-laid g c before writes is have =
    let run = run_at _ _ c.args.kept.now writes c.in-Some.ensures.count c.in-Some.ensures.behind is in
    laid_settled _ _ writes before _ c.sync.ensures.reads (subst (λ r. IsSome r) (sym c.sync.ensures.reads) (c.write_pages.ensures.told have.told)) (c.in_ok-write_pages.ensures.written writes run) c.in_ok-sync.ensures.durable
    (now_has _ _ (IsMidway writes before) (g.met.D.Disk.is_disk c.sync.new.self) (returns-clause-any_moment g c before writes is have) have.each)

pub returns-clause-others : goal.returns-clause-others
returns-clause-others g c = then_looked_others (is_same area.Home) _ _ _ c.write_pages.ensures.others c.sync.ensures.reads c.sync.ensures.crash

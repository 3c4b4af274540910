-- Each page that is written is the first of those that are left.
use Rattle.std.proofs.Common.{refl, ◌≡◌, ◌+◌, ◌-◌, suc, length, arith}
use Rattle.green_io.specs.declared.disk.Area.TheVariants as area
use Rattle.green_io.specs.Areas.{is_same}
use Rattle.green_io.specs.Disk.{Torn, Written}
use Rattle.green_io.proofs.Beside.{untouched_others, changed_others, then_others}
use Rattle.page_journal.proofs.Amid.{partway_start, partway_torn, partway_next, partway_done, changed_told}
use Rattle.page_journal.proofs.phases.write_pages.Goals as goal

pub loop-init : goal.loop-init
loop-init g c = record {
  partway = λ writes run. partway_start _ c.args.count (c.args.count - 0) c.args.pages.now writes (omega arith) run;
  told = λ told. told;
  others = untouched_others (is_same area.Home) _;
  faults = omega arith;
}

pub loop-preserved : goal.loop-preserved
loop-preserved g c =
    let more : c.args.count - c.loop.counter ≡ suc (c.args.count - (c.loop.counter + 1)) = omega (arith, c.loop-test.true) in
    record {
      partway = λ writes run. partway_next _ _ _ (c.args.count - c.loop.counter) (c.args.count - (c.loop.counter + 1)) c.in-Some.entry.number c.saturating_mul.result c.in-Some.entry.page.now c.in-Some.entry.behind.now c.loop.rest.now writes (g.met.D.Disk.is_disk c.loop.disk) (c.loop.invariant.partway writes run)
          record { more = more; number_is = c.in-Some.ensures.number; page_is = c.in-Some.ensures.page; behind_is = c.in-Some.ensures.behind }
          c.saturating_mul.ensures c.write.ensures.crash c.in_ok-write.ensures.written;
      told = λ told. changed_told area.Home (Written c.saturating_mul.result c.in-Some.entry.page.now) _ _ c.in_ok-write.ensures.written (c.loop.invariant.told told);
      others = then_others (is_same area.Home) _ _ _ (g.met.D.Disk.is_disk c.loop.disk) c.loop.invariant.others (changed_others area.Home (Written c.saturating_mul.result c.in-Some.entry.page.now) (Torn c.saturating_mul.result (length c.in-Some.entry.page.now)) _ _ c.in_ok-write.ensures.written c.write.ensures.crash);
      faults = omega (arith, c.loop.invariant.faults, c.write.ensures.never_falls);
    }

pub returns-in_default-clause-any_moment : goal.returns-in_default-clause-any_moment
returns-in_default-clause-any_moment g c before writes run have = (c.loop.invariant.partway writes run).images before have

pub returns-in_default-clause-written : goal.returns-in_default-clause-written
returns-in_default-clause-written g c writes run =
    let long = (c.loop.invariant.partway writes run).run.long in
    let short = c.in_default.ensures.short refl in
    absurd (omega (arith, long, c.loop-test.true, short))

pub returns-in_err-write-clause-any_moment : goal.returns-in_err-write-clause-any_moment
returns-in_err-write-clause-any_moment g c before writes run have =
    let more : c.args.count - c.loop.counter ≡ suc (c.args.count - (c.loop.counter + 1)) = omega (arith, c.loop-test.true) in
    partway_torn _ _ _ (c.args.count - c.loop.counter) (c.args.count - (c.loop.counter + 1)) c.in-Some.entry.number c.saturating_mul.result c.in-Some.entry.page.now c.in-Some.entry.behind.now c.loop.rest.now writes (g.met.D.Disk.is_disk c.loop.disk) (c.loop.invariant.partway writes run)
    record { more = more; number_is = c.in-Some.ensures.number; page_is = c.in-Some.ensures.page; behind_is = c.in-Some.ensures.behind }
    c.saturating_mul.ensures c.write.ensures.crash before have

pub returns-in_err-write-clause-others : goal.returns-in_err-write-clause-others
returns-in_err-write-clause-others g c =
    then_others (is_same area.Home) _ _ _ (g.met.D.Disk.is_disk c.loop.disk) c.loop.invariant.others
    (changed_others area.Home (Torn c.saturating_mul.result (length c.in-Some.entry.page.now)) (Torn c.saturating_mul.result (length c.in-Some.entry.page.now)) _ _ c.in_err-write.ensures.part c.write.ensures.crash)

pub returns-clause-any_moment : goal.returns-clause-any_moment
returns-clause-any_moment g c before writes run have = (c.loop.invariant.partway writes run).images before have

pub returns-clause-written : goal.returns-clause-written
returns-clause-written g c writes run =
    partway_done _ _ (c.args.count - c.loop.counter) c.loop.rest.now writes (omega (arith, c.loop-test.false)) (c.loop.invariant.partway writes run)

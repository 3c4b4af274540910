use Rattle.std.proofs.Common.{◌≡◌, ◌≢◌, ◌≤◌, ◌++◌, [], List, length, sym, ◌∙◌, ap, subst, arith}
use Rattle.std.specs.List.{AllByRecursion}
use Rattle.page_journal.specs.JournalBytes.{IsWrite, AreWrites, writes_of}
use Rattle.page_journal.specs.Images.{is_paged}
use Rattle.page_journal.specs.Pages.{Writes}
use Rattle.green_io.proofs.Beside.{then_others}
use Rattle.page_saves.specs.Resting.{RestsOn, RestsAfter}
use Rattle.page_saves.proofs.Answering.{on_err}
use Rattle.page_saves.proofs.Cut.{each-back, is-group, none-left}
use Rattle.page_saves.proofs.Grouped.{SoFar, still-rests, group-stopped, group-left, group-more, all-written}
use Rattle.page_saves.proofs.commits.write_pages.Goals as goal

pub returns-in_err-copies-clause-any_moment : goal.returns-in_err-copies-clause-any_moment
returns-in_err-copies-clause-any_moment g c was saved leads rests = (c.loop-rest.invariant.course was saved leads rests).leaves

pub returns-in_err-copies-clause-fails : goal.returns-in_err-copies-clause-fails
returns-in_err-copies-clause-fails g c was saved leads rests =
    on_err c.from_residual.result (RestsOn (g.D.Disk.state c.loop-rest.disk) c.loop-rest.journal was saved)
    (still-rests _ _ c.loop-rest.journal was saved _ _ (c.loop-rest.invariant.course was saved leads rests))

pub commit_on-requires : goal.commit_on-requires
commit_on-requires g c =
    let group = is-group c.loop-rest.rest.now c.split_at.result.0.now c.split_at.result.1.now (writes_of c.in_ok-copies.copies.items) c.min.result c.is_empty.result c.is_empty.ensures c.loop-rest-test.true c.min.ensures c.split_at.ensures.front c.split_at.ensures.back c.in_ok-copies.ensures c.loop-rest.invariant.each in
    group.are

pub returns-in_err-commit_on-clause-any_moment : goal.returns-in_err-commit_on-clause-any_moment
returns-in_err-commit_on-clause-any_moment g c was saved leads rests =
    let old = g.D.Disk.state c.args.disk.now in
    let mid = g.D.Disk.state c.loop-rest.disk in
    let new = g.D.Disk.state c.commit_on.new.disk in
    let all = writes_of c.args.pages.now in
    let copies = writes_of c.in_ok-copies.copies.items in
    let behind = writes_of c.split_at.result.1.now in
    let group = is-group c.loop-rest.rest.now c.split_at.result.0.now c.split_at.result.1.now (writes_of c.in_ok-copies.copies.items) c.min.result c.is_empty.result c.is_empty.ensures c.loop-rest-test.true c.min.ensures c.split_at.ensures.front c.split_at.ensures.back c.in_ok-copies.ensures c.loop-rest.invariant.each in
    let so_far = subst (SoFar old mid c.loop-rest.journal was saved all) group.parts (c.loop-rest.invariant.course was saved leads rests) in
    group-stopped old mid new c.loop-rest.journal was saved all copies behind group.some so_far c.in_err-commit_on.ensures.any_moment

pub returns-in_err-commit_on-clause-fails : goal.returns-in_err-commit_on-clause-fails
returns-in_err-commit_on-clause-fails g c was saved leads rests =
    let old = g.D.Disk.state c.args.disk.now in
    let mid = g.D.Disk.state c.loop-rest.disk in
    let new = g.D.Disk.state c.commit_on.new.disk in
    let all = writes_of c.args.pages.now in
    let copies = writes_of c.in_ok-copies.copies.items in
    let behind = writes_of c.split_at.result.1.now in
    let group = is-group c.loop-rest.rest.now c.split_at.result.0.now c.split_at.result.1.now (writes_of c.in_ok-copies.copies.items) c.min.result c.is_empty.result c.is_empty.ensures c.loop-rest-test.true c.min.ensures c.split_at.ensures.front c.split_at.ensures.back c.in_ok-copies.ensures c.loop-rest.invariant.each in
    let so_far = subst (SoFar old mid c.loop-rest.journal was saved all) group.parts (c.loop-rest.invariant.course was saved leads rests) in
    on_err c.from_residual-in_err-commit_on.result (RestsOn new c.commit_on.new.journal was saved)
    (group-left old mid new c.loop-rest.journal c.commit_on.new.journal was saved all copies behind group.some so_far c.in_err-commit_on.ensures.fails)

pub returns-in_err-commit_on-clause-others : goal.returns-in_err-commit_on-clause-others
returns-in_err-commit_on-clause-others g c = then_others is_paged _ _ _ (g.met.D.Disk.is_disk c.loop-rest.disk) c.loop-rest.invariant.others c.in_err-commit_on.ensures.others

pub loop-rest-preserved : goal.loop-rest-preserved
loop-rest-preserved g c =
    let old = g.D.Disk.state c.args.disk.now in
    let mid = g.D.Disk.state c.loop-rest.disk in
    let new = g.D.Disk.state c.commit_on.new.disk in
    let all = writes_of c.args.pages.now in
    let copies = writes_of c.in_ok-copies.copies.items in
    let behind = writes_of c.split_at.result.1.now in
    let group = is-group c.loop-rest.rest.now c.split_at.result.0.now c.split_at.result.1.now (writes_of c.in_ok-copies.copies.items) c.min.result c.is_empty.result c.is_empty.ensures c.loop-rest-test.true c.min.ensures c.split_at.ensures.front c.split_at.ensures.back c.in_ok-copies.ensures c.loop-rest.invariant.each in
    record {
      each = each-back copies behind (subst (AllByRecursion IsWrite) group.parts c.loop-rest.invariant.each);
      course = λ was saved leads rests.
          let so_far = subst (SoFar old mid c.loop-rest.journal was saved all) group.parts (c.loop-rest.invariant.course was saved leads rests) in
          group-more old mid new c.loop-rest.journal c.commit_on.new.journal was saved all copies behind group.some so_far c.in_ok-commit_on.ensures.any_moment c.in_ok-commit_on.ensures.done;
      others = then_others is_paged _ _ _ (g.met.D.Disk.is_disk c.loop-rest.disk) c.loop-rest.invariant.others c.in_ok-commit_on.ensures.others;
      never_falls = omega (arith, c.loop-rest.invariant.never_falls, c.in_ok-commit_on.ensures.never_falls);
    }

pub returns-clause-any_moment : goal.returns-clause-any_moment
returns-clause-any_moment g c was saved leads rests = (c.loop-rest.invariant.course was saved leads rests).leaves

pub returns-clause-done : goal.returns-clause-done
returns-clause-done g c was saved leads rests =
    all-written _ _ c.loop-rest.journal was saved (writes_of c.args.pages.now) (writes_of c.loop-rest.rest.now) (none-left c.loop-rest.rest.now c.is_empty.result c.is_empty.ensures c.loop-rest-test.false) (c.loop-rest.invariant.course was saved leads rests)

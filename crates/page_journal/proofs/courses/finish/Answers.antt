-- Each stage is gone on with from what every image has in it.
use Rattle.std.proofs.Common.{subst}
use Rattle.green_io.proofs.Beside.{untouched_others}
use Rattle.green_io.proofs.Crash.{none_called}
use Rattle.green_io.specs.Disk.{images_now}
use Rattle.page_journal.specs.Pages.{pages_of}
use Rattle.page_journal.specs.Images.{GivesEither, is_paged}
use Rattle.page_journal.specs.JournalView.{IsAt}
use Rattle.page_journal.proofs.Joining.{ok_then, laid_leaves, closing_leaves, finished_over, finished_from, finished_closing, closing_stays}
use Rattle.page_journal.proofs.Recorded.{staged_each}
use Rattle.page_journal.proofs.courses.finish.Goals as goal

pub returns-in-Clean-clause-any_moment : goal.returns-in-Clean-clause-any_moment
returns-in-Clean-clause-any_moment g c before writes is at = none_called _ (GivesEither (pages_of before) writes)

pub returns-in-Clean-clause-done : goal.returns-in-Clean-clause-done
returns-in-Clean-clause-done g c before writes is at = absurd (subst (λ s. IsAt (g.D.Disk.state c.args.disk.now) s before writes) c.in-Clean.is at)

pub returns-in-Clean-clause-others : goal.returns-in-Clean-clause-others
returns-in-Clean-clause-others g c = untouched_others is_paged _

pub returns-in-Gating-clause-any_moment : goal.returns-in-Gating-clause-any_moment
returns-in-Gating-clause-any_moment g c before writes is at = c.set_off.ensures.any_moment before writes is (subst (λ s. IsAt (g.D.Disk.state c.args.disk.now) s before writes) c.in-Gating.is at)

pub returns-in-Gating-clause-done : goal.returns-in-Gating-clause-done
returns-in-Gating-clause-done g c before writes is at =
    ok_then _ _ _ (c.set_off.ensures.done before writes is (subst (λ s. IsAt (g.D.Disk.state c.args.disk.now) s before writes) c.in-Gating.is at)) (finished_over _ before writes (staged_each c.args.kept.now writes is))

pub returns-in-Gating-clause-fails : goal.returns-in-Gating-clause-fails
returns-in-Gating-clause-fails g c before writes is at = c.set_off.ensures.fails before writes is (subst (λ s. IsAt (g.D.Disk.state c.args.disk.now) s before writes) c.in-Gating.is at)

pub returns-in-Writing-clause-any_moment : goal.returns-in-Writing-clause-any_moment
returns-in-Writing-clause-any_moment g c before writes is at =
    laid_leaves _ _ (pages_of before) writes (c.lay.ensures.any_moment before writes is (subst (λ s. IsAt (g.D.Disk.state c.args.disk.now) s before writes) c.in-Writing.is at))

pub returns-in-Writing-clause-done : goal.returns-in-Writing-clause-done
returns-in-Writing-clause-done g c before writes is at =
    let have = subst (λ s. IsAt (g.D.Disk.state c.args.disk.now) s before writes) c.in-Writing.is at in
    ok_then _ _ _ (c.lay.ensures.done before writes is have)
    (λ settled. finished_from _ (images_now (g.D.Disk.state c.args.disk.now)) _ before writes (staged_each c.args.kept.now writes is) have.told (g.met.D.Disk.is_disk c.args.disk.now).as_it_reads have.each settled)

pub returns-in-Writing-clause-fails : goal.returns-in-Writing-clause-fails
returns-in-Writing-clause-fails g c before writes is at = c.lay.ensures.fails before writes is (subst (λ s. IsAt (g.D.Disk.state c.args.disk.now) s before writes) c.in-Writing.is at)

pub returns-in-Closing-clause-any_moment : goal.returns-in-Closing-clause-any_moment
returns-in-Closing-clause-any_moment g c before writes is at =
    let closing = subst (λ s. IsAt (g.D.Disk.state c.args.disk.now) s before writes) c.in-Closing.is at in
    laid_leaves _ _ (pages_of before) writes (closing_leaves _ _ before writes (staged_each c.args.kept.now writes is) closing (c.shut.ensures.any_moment closing.home writes closing.images))

pub returns-in-Closing-clause-done : goal.returns-in-Closing-clause-done
returns-in-Closing-clause-done g c before writes is at =
    let closing = subst (λ s. IsAt (g.D.Disk.state c.args.disk.now) s before writes) c.in-Closing.is at in
    ok_then _ _ _ (c.shut.ensures.done closing.home writes closing.images)
    (finished_closing _ _ before writes closing)

pub returns-in-Closing-clause-fails : goal.returns-in-Closing-clause-fails
returns-in-Closing-clause-fails g c before writes is at =
    let closing = subst (λ s. IsAt (g.D.Disk.state c.args.disk.now) s before writes) c.in-Closing.is at in
    closing_stays c.shut.result _ c.args.stage.now c.shut.new.stage before writes closing.home closing.laid_over c.in-Closing.is c.shut.ensures.stays (c.shut.ensures.fails closing.home writes closing.images)

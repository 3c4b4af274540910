-- The gate may be any byte until it is a stable 1, and then the pages are laid.
use Rattle.std.proofs.Common.{refl}
use Rattle.green_io.specs.declared.disk.Area.TheVariants as area
use Rattle.green_io.proofs.Beside.{area_others, then_others}
use Rattle.green_io.proofs.Crash.{same}
use Rattle.page_journal.specs.Pages.{pages_of}
use Rattle.page_journal.specs.Images.{IsGated, GivesEither, is_paged}
use Rattle.page_journal.proofs.Joining.{all_midway, ajar_leaves, laid_leaves, settled_over}
use Rattle.page_journal.proofs.Recorded.{staged_each}
use Rattle.page_journal.proofs.Steps.{home_reads}
use Rattle.page_journal.proofs.Answering.{on_err}
use Rattle.page_journal.proofs.courses.set_off.Goals as goal

pub returns-in_err-open_gate-clause-any_moment : goal.returns-in_err-open_gate-clause-any_moment
returns-in_err-open_gate-clause-any_moment g c home writes is have =
    ajar_leaves _ _ home writes (staged_each c.args.kept.now writes is) (c.open_gate.ensures.any_moment home writes have)

pub returns-in_err-open_gate-clause-fails : goal.returns-in_err-open_gate-clause-fails
returns-in_err-open_gate-clause-fails g c home writes is have = on_err _ _ (c.in_err-open_gate.ensures.ajar home writes have)

pub returns-in_err-open_gate-clause-others : goal.returns-in_err-open_gate-clause-others
returns-in_err-open_gate-clause-others g c = area_others area.Journal is_paged _ _ refl c.open_gate.ensures.others

pub returns-in_err-lay-clause-any_moment : goal.returns-in_err-lay-clause-any_moment
returns-in_err-lay-clause-any_moment g c home writes is have =
    let midway = all_midway _ home writes (c.in_ok-open_gate.ensures.opened home writes have) in
    same _ _ _ (GivesEither (pages_of home) writes)
    (ajar_leaves _ _ home writes (staged_each c.args.kept.now writes is) (c.open_gate.ensures.any_moment home writes have))
    (laid_leaves _ _ (pages_of home) writes (c.lay.ensures.any_moment home writes is midway))

pub returns-in_err-lay-clause-fails : goal.returns-in_err-lay-clause-fails
returns-in_err-lay-clause-fails g c home writes is have =
    on_err _ _ (c.in_err-lay.ensures.fails home writes is (all_midway _ home writes (c.in_ok-open_gate.ensures.opened home writes have)))

pub returns-in_err-lay-clause-others : goal.returns-in_err-lay-clause-others
returns-in_err-lay-clause-others g c =
    then_others is_paged _ _ _ (g.met.D.Disk.is_disk c.open_gate.new.disk)
    (area_others area.Journal is_paged _ _ refl c.open_gate.ensures.others) c.lay.ensures.others

pub returns-clause-any_moment : goal.returns-clause-any_moment
returns-clause-any_moment g c home writes is have =
    let midway = all_midway _ home writes (c.in_ok-open_gate.ensures.opened home writes have) in
    same _ _ _ (GivesEither (pages_of home) writes)
    (ajar_leaves _ _ home writes (staged_each c.args.kept.now writes is) (c.open_gate.ensures.any_moment home writes have))
    (laid_leaves _ _ (pages_of home) writes (c.lay.ensures.any_moment home writes is midway))

pub returns-clause-done : goal.returns-clause-done
returns-clause-done g c home writes is have =
    let gated = c.in_ok-open_gate.ensures.opened home writes have in
    settled_over _ _ home writes gated.told (home_reads _ home (IsGated writes) (g.met.D.Disk.is_disk c.open_gate.new.disk) gated)
    (c.in_ok-lay.ensures.done home writes is (all_midway _ home writes gated))

pub returns-clause-others : goal.returns-clause-others
returns-clause-others g c =
    then_others is_paged _ _ _ (g.met.D.Disk.is_disk c.open_gate.new.disk)
    (area_others area.Journal is_paged _ _ refl c.open_gate.ensures.others) c.lay.ensures.others

-- While the pages are laid, and while the gate is closed behind them, opening gives the pages after the writes.
use Rattle.std.proofs.Common.{refl}
use Rattle.green_io.specs.declared.disk.Area.TheVariants as area
use Rattle.green_io.proofs.Beside.{area_others, then_others}
use Rattle.green_io.proofs.Crash.{same}
use Rattle.page_journal.specs.Pages.{pages_of}
use Rattle.page_journal.specs.Images.{is_paged}
use Rattle.page_journal.specs.inside.Courses.{GivesLaid}
use Rattle.page_journal.proofs.Joining.{laying_gives, closing_leaves, closing_of, closing_again, settled_where}
use Rattle.page_journal.proofs.Recorded.{staged_each}
use Rattle.page_journal.proofs.Answering.{on_err}
use Rattle.page_journal.proofs.courses.lay.Goals as goal

pub returns-in_err-lay_pages-clause-any_moment : goal.returns-in_err-lay_pages-clause-any_moment
returns-in_err-lay_pages-clause-any_moment g c before writes is have =
    laying_gives _ _ before writes (staged_each c.args.kept.now writes is) (c.lay_pages.ensures.any_moment before writes is have)

pub returns-in_err-lay_pages-clause-fails : goal.returns-in_err-lay_pages-clause-fails
returns-in_err-lay_pages-clause-fails g c before writes is have = on_err _ _ (c.in_err-lay_pages.ensures.midway before writes is have)

pub returns-in_err-lay_pages-clause-others : goal.returns-in_err-lay_pages-clause-others
returns-in_err-lay_pages-clause-others g c = area_others area.Home is_paged _ _ refl c.lay_pages.ensures.others

pub returns-in_err-close_gate-clause-any_moment : goal.returns-in_err-close_gate-clause-any_moment
returns-in_err-close_gate-clause-any_moment g c before writes is have =
    let each = staged_each c.args.kept.now writes is in
    let closing = closing_of _ _ before writes each (g.met.D.Disk.is_disk c.args.disk.now) have (c.in_ok-lay_pages.ensures.laid before writes is have) in
    same _ _ _ (GivesLaid (pages_of before) writes)
    (laying_gives _ _ before writes each (c.lay_pages.ensures.any_moment before writes is have))
    (closing_leaves _ _ before writes each closing (c.close_gate.ensures.any_moment closing.home writes closing.images))

pub returns-in_err-close_gate-clause-fails : goal.returns-in_err-close_gate-clause-fails
returns-in_err-close_gate-clause-fails g c before writes is have =
    let closing = closing_of _ _ before writes (staged_each c.args.kept.now writes is) (g.met.D.Disk.is_disk c.args.disk.now) have (c.in_ok-lay_pages.ensures.laid before writes is have) in
    on_err _ _ (closing_again _ _ before writes closing (c.in_err-close_gate.ensures.ajar closing.home writes closing.images))

pub returns-in_err-close_gate-clause-others : goal.returns-in_err-close_gate-clause-others
returns-in_err-close_gate-clause-others g c =
    then_others is_paged _ _ _ (g.met.D.Disk.is_disk c.lay_pages.new.disk)
    (area_others area.Home is_paged _ _ refl c.lay_pages.ensures.others)
    (area_others area.Journal is_paged _ _ refl c.close_gate.ensures.others)

pub returns-clause-any_moment : goal.returns-clause-any_moment
returns-clause-any_moment g c before writes is have =
    let each = staged_each c.args.kept.now writes is in
    let closing = closing_of _ _ before writes each (g.met.D.Disk.is_disk c.args.disk.now) have (c.in_ok-lay_pages.ensures.laid before writes is have) in
    same _ _ _ (GivesLaid (pages_of before) writes)
    (laying_gives _ _ before writes each (c.lay_pages.ensures.any_moment before writes is have))
    (closing_leaves _ _ before writes each closing (c.close_gate.ensures.any_moment closing.home writes closing.images))

pub returns-clause-done : goal.returns-clause-done
returns-clause-done g c before writes is have =
    settled_where _ _ _ writes (c.in_ok-lay_pages.ensures.laid before writes is have) (λ home images. c.in_ok-close_gate.ensures.closed home writes images)

pub returns-clause-others : goal.returns-clause-others
returns-clause-others g c =
    then_others is_paged _ _ _ (g.met.D.Disk.is_disk c.lay_pages.new.disk)
    (area_others area.Home is_paged _ _ refl c.lay_pages.ensures.others)
    (area_others area.Journal is_paged _ _ refl c.close_gate.ensures.others)

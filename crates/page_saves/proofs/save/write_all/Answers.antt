use Rattle.std.proofs.Common.{◌⊎◌, inl, inr, ⊎_elim, OnErr}
use Rattle.page_journal.specs.JournalBytes.{writes_of}
use Rattle.page_journal.specs.Images.{is_paged}
use Rattle.green_io.proofs.Beside.{then_others}
use Rattle.page_saves.specs.Courses.{begun, after}
use Rattle.page_saves.specs.Resting.{Rests, RestsOn, RestsAfter, IsSettledOn}
use Rattle.page_saves.proofs.Answering.{on_err}
use Rattle.page_saves.proofs.Ending.{first-leaves, last-leaves, last-fails, last-settles}
use Rattle.page_saves.proofs.save.write_all.Goals as goal

pub returns-in_err-write_pages-clause-any_moment : goal.returns-in_err-write_pages-clause-any_moment
returns-in_err-write_pages-clause-any_moment g c was saved next leads rests =
    first-leaves _ _ was saved next (c.in_err-write_pages.ensures.any_moment was saved leads.each rests)

pub returns-in_err-write_pages-clause-fails : goal.returns-in_err-write_pages-clause-fails
returns-in_err-write_pages-clause-fails g c was saved next leads rests =
    on_err c.from_residual.result _ (inl (c.in_err-write_pages.ensures.fails was saved leads.each rests))

pub returns-in_err-commit_on-clause-any_moment : goal.returns-in_err-commit_on-clause-any_moment
returns-in_err-commit_on-clause-any_moment g c was saved next leads rests =
    last-leaves _ _ _ c.write_pages.new.journal was saved next (writes_of c.args.pages.now) (writes_of c.args.last.now.items) leads.ends (c.in_ok-write_pages.ensures.any_moment was saved leads.each rests)
    (c.in_ok-write_pages.ensures.done was saved leads.each rests) c.in_err-commit_on.ensures.any_moment

pub returns-in_err-commit_on-clause-fails : goal.returns-in_err-commit_on-clause-fails
returns-in_err-commit_on-clause-fails g c was saved next leads rests =
    on_err c.from_residual-in_err-commit_on.result _
    (last-fails _ _ c.write_pages.new.journal c.commit_on.new.journal was saved next (writes_of c.args.pages.now) (writes_of c.args.last.now.items) leads.ends
    (c.in_ok-write_pages.ensures.done was saved leads.each rests) c.in_err-commit_on.ensures.fails)

pub returns-in_err-commit_on-clause-others : goal.returns-in_err-commit_on-clause-others
returns-in_err-commit_on-clause-others g c = then_others is_paged _ _ _ (g.met.D.Disk.is_disk c.write_pages.new.disk) c.in_ok-write_pages.ensures.others c.in_err-commit_on.ensures.others

pub returns-clause-any_moment : goal.returns-clause-any_moment
returns-clause-any_moment g c was saved next leads rests =
    last-leaves _ _ _ c.write_pages.new.journal was saved next (writes_of c.args.pages.now) (writes_of c.args.last.now.items) leads.ends (c.in_ok-write_pages.ensures.any_moment was saved leads.each rests)
    (c.in_ok-write_pages.ensures.done was saved leads.each rests) c.in_ok-commit_on.ensures.any_moment

pub returns-clause-done : goal.returns-clause-done
returns-clause-done g c was saved next leads rests =
    last-settles _ _ c.write_pages.new.journal c.commit_on.new.journal was saved next (writes_of c.args.pages.now) (writes_of c.args.last.now.items) leads.ends
    (c.in_ok-write_pages.ensures.done was saved leads.each rests) c.in_ok-commit_on.ensures.done

pub returns-clause-others : goal.returns-clause-others
returns-clause-others g c = then_others is_paged _ _ _ (g.met.D.Disk.is_disk c.write_pages.new.disk) c.in_ok-write_pages.ensures.others c.in_ok-commit_on.ensures.others

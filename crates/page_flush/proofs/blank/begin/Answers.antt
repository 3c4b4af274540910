-- No blank start is needed, or the commit of one leaves what is said.
use Rattle.std.proofs.Common.{inl, inr}
use Rattle.green_io.proofs.Beside.{untouched_others}
use Rattle.green_io.proofs.Crash.{none_called}
use Rattle.page_journal.specs.Images.{is_paged}
use Rattle.page_journal.specs.JournalBytes.{writes_of}
use Rattle.page_saves.specs.Courses.{Blank}
use Rattle.page_saves.proofs.Answering.{on_err}
use Rattle.page_flush.specs.Saving.{blank_page}
use Rattle.page_flush.specs.inside.Blanks.{GivesBegun}
use Rattle.page_flush.proofs.Blanking.{blank_writes, blank_leads, begun_idle, begun_made, begun_gives}
use Rattle.page_flush.proofs.blank.begin.Goals as goal

pub returns-then-not-needs_blank-clause-any_moment : goal.returns-then-not-needs_blank-clause-any_moment
returns-then-not-needs_blank-clause-any_moment g c was saved rests = none_called (g.D.Disk.state c.args.disk.now) (GivesBegun was saved c.args.needs_blank.now)

pub returns-then-not-needs_blank-clause-done : goal.returns-then-not-needs_blank-clause-done
returns-then-not-needs_blank-clause-done g c was saved rests = begun_idle (g.D.Disk.state c.args.disk.now) c.args.journal.now was saved c.args.needs_blank.now c.if-not-needs_blank.true rests

pub returns-then-not-needs_blank-clause-others : goal.returns-then-not-needs_blank-clause-others
returns-then-not-needs_blank-clause-others g c = untouched_others is_paged (g.D.Disk.state c.args.disk.now)

pub returns-in_err-page-clause-any_moment : goal.returns-in_err-page-clause-any_moment
returns-in_err-page-clause-any_moment g c was saved rests = none_called (g.D.Disk.state c.args.disk.now) (GivesBegun was saved c.args.needs_blank.now)

pub returns-in_err-page-clause-fails : goal.returns-in_err-page-clause-fails
returns-in_err-page-clause-fails g c was saved rests = on_err c.from_residual.result _ (c.if-not-needs_blank.false, inl rests)

pub returns-in_err-page-clause-others : goal.returns-in_err-page-clause-others
returns-in_err-page-clause-others g c = untouched_others is_paged (g.D.Disk.state c.args.disk.now)

pub write_all-requires-clause-last : goal.write_all-requires-clause-last
write_all-requires-clause-last g c = blank_writes (writes_of c.in_ok-page.page.items) c.in_ok-page.ensures

pub returns-in_err-write_all-clause-any_moment : goal.returns-in_err-write_all-clause-any_moment
returns-in_err-write_all-clause-any_moment g c was saved rests = begun_gives (g.D.Disk.state c.args.disk.now) (g.D.Disk.state c.write_all.new.disk) was saved c.args.needs_blank.now c.if-not-needs_blank.false (c.in_err-write_all.ensures.any_moment was saved (Blank blank_page) (blank_leads saved (writes_of c.in_ok-page.page.items) c.in_ok-page.ensures) rests)

pub returns-in_err-write_all-clause-fails : goal.returns-in_err-write_all-clause-fails
returns-in_err-write_all-clause-fails g c was saved rests = on_err c.from_residual-in_err-write_all.result _ (c.if-not-needs_blank.false, c.in_err-write_all.ensures.fails was saved (Blank blank_page) (blank_leads saved (writes_of c.in_ok-page.page.items) c.in_ok-page.ensures) rests)

pub returns-clause-any_moment : goal.returns-clause-any_moment
returns-clause-any_moment g c was saved rests = begun_gives (g.D.Disk.state c.args.disk.now) (g.D.Disk.state c.write_all.new.disk) was saved c.args.needs_blank.now c.if-not-needs_blank.false (c.in_ok-write_all.ensures.any_moment was saved (Blank blank_page) (blank_leads saved (writes_of c.in_ok-page.page.items) c.in_ok-page.ensures) rests)

pub returns-clause-done : goal.returns-clause-done
returns-clause-done g c was saved rests = begun_made (g.D.Disk.state c.write_all.new.disk) c.write_all.new.journal was saved c.args.needs_blank.now c.if-not-needs_blank.false (c.in_ok-write_all.ensures.done was saved (Blank blank_page) (blank_leads saved (writes_of c.in_ok-page.page.items) c.in_ok-page.ensures) rests)

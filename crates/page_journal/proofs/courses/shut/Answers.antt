-- The gate is closed, in the areas of the pages alone.
use Rattle.std.proofs.Common.{refl}
use Rattle.green_io.specs.declared.disk.Area.TheVariants as area
use Rattle.green_io.proofs.Beside.{area_others}
use Rattle.page_journal.specs.Images.{is_paged}
use Rattle.page_journal.proofs.Answering.{on_err}
use Rattle.page_journal.proofs.courses.shut.Goals as goal

pub returns-in_err-close_gate-clause-any_moment : goal.returns-in_err-close_gate-clause-any_moment
returns-in_err-close_gate-clause-any_moment g c home writes have = c.close_gate.ensures.any_moment home writes have

pub returns-in_err-close_gate-clause-fails : goal.returns-in_err-close_gate-clause-fails
returns-in_err-close_gate-clause-fails g c home writes have = on_err _ _ (c.in_err-close_gate.ensures.ajar home writes have)

pub returns-in_err-close_gate-clause-others : goal.returns-in_err-close_gate-clause-others
returns-in_err-close_gate-clause-others g c = area_others area.Journal is_paged _ _ refl c.close_gate.ensures.others

pub returns-clause-any_moment : goal.returns-clause-any_moment
returns-clause-any_moment g c home writes have = c.close_gate.ensures.any_moment home writes have

pub returns-clause-done : goal.returns-clause-done
returns-clause-done g c home writes have = c.in_ok-close_gate.ensures.closed home writes have

pub returns-clause-others : goal.returns-clause-others
returns-clause-others g c = area_others area.Journal is_paged _ _ refl c.close_gate.ensures.others

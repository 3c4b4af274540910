-- The gate was read, and where it is open what stands behind it.
use Rattle.std.proofs.Common.{◌∙◌, subst}
use Rattle.green_io.specs.Disk.{Nothing}
use Rattle.green_io.proofs.Crash.{same}
use Rattle.page_journal.specs.declared.opening.Gate.TheVariants as gates
use Rattle.page_journal.specs.inside.Opening.{IsGate}
use Rattle.page_journal.proofs.Opens.{shut_where, torn_where, open_where, if_ok_then, fault_then, risen}
use Rattle.page_journal.proofs.opening.find.Goals as goal

pub returns-in-Shut-clause-found : goal.returns-in-Shut-clause-found
returns-in-Shut-clause-found g c = shut_where _ _ (subst (IsGate gates.Shut) c.as_slice.ensures c.in-Shut.ensures) c.in_ok-read_range.ensures.range

pub returns-in-Torn-clause-found : goal.returns-in-Torn-clause-found
returns-in-Torn-clause-found g c = torn_where _ _ (subst (IsGate gates.Torn) c.as_slice.ensures c.in-Torn.ensures) c.in_ok-read_range.ensures.range

pub returns-clause-found : goal.returns-clause-found
returns-clause-found g c =
    if_ok_then _ _ _ c.find_record.ensures.found
    (λ found has. open_where _ _ found _ c.read_range.ensures.reads (subst (IsGate gates.Open) c.as_slice.ensures c.in-Open.ensures) c.in_ok-read_range.ensures.range has)

pub returns-clause-reads : goal.returns-clause-reads
returns-clause-reads g c = c.find_record.ensures.reads ∙ c.read_range.ensures.reads

pub returns-clause-crash : goal.returns-clause-crash
returns-clause-crash g c = same _ _ _ Nothing c.read_range.ensures.crash c.find_record.ensures.crash

pub returns-clause-failed : goal.returns-clause-failed
returns-clause-failed g c = fault_then _ _ _ c.find_record.ensures.failed (risen _ _ _ c.read_range.ensures.never_falls)

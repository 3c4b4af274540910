-- What the steps of a commit give of the whole.
use Rattle.std.proofs.Common.{◌≡◌, inl, inr, ⊎_elim}
use Rattle.green_io.specs.Disk.{DiskState, LeavesOnly}
use Rattle.green_io.proofs.Crash.{same, weaker}
use Rattle.page_journal.specs.declared.stage.Stage.{Stage}
use Rattle.page_journal.specs.declared.stage.Stage.TheVariants.{Clean}
use Rattle.page_journal.specs.Pages.{Bytes, Writes, pages_of}
use Rattle.page_journal.specs.Images.{GivesEither, GivesAny}
use Rattle.page_journal.specs.JournalView.{IsSettled, IsAt, IsRecordOf, IsClean, IsLeft, IsFinished}
use Rattle.page_journal.specs.inside.Courses.{IsLeftAt}
use Rattle.page_journal.proofs.Gives.{resumed_gives}

-- the first commit alone
pub first_leaves : (a b : DiskState) (before : Bytes) (first second : Writes) → LeavesOnly a b (GivesEither (pages_of before) first) → LeavesOnly a b (GivesAny (pages_of before) first second)
first_leaves a b before first second leaves =
    weaker a b (GivesEither (pages_of before) first) (GivesAny (pages_of before) first second) leaves (λ i has. inl has)

-- the first commit, and then the second
pub resumed_leaves : (a b c : DiskState) (before home : Bytes) (first second : Writes) → IsFinished before first home → LeavesOnly a b (GivesEither (pages_of before) first) → LeavesOnly b c (GivesEither (pages_of home) second) → LeavesOnly a c (GivesAny (pages_of before) first second)
resumed_leaves a b c before home first second finished one other =
    same a b c (GivesAny (pages_of before) first second) (first_leaves a b before first second one)
    (weaker b c (GivesEither (pages_of home) second) (GivesAny (pages_of before) first second) other (λ i has. resumed_gives before home first second i finished.laid_over has))

pub clean_from : (c : DiskState) (stage : Stage) (kept home : Bytes) → stage ≡ Clean → IsSettled c home → IsClean c record { stage = stage; kept = kept } home
clean_from c stage kept home idle settled = record { idle = idle; images = settled }

pub left_from : (c : DiskState) (stage : Stage) (kept home : Bytes) (writes : Writes) → IsRecordOf kept writes → IsLeftAt c stage home writes → IsLeft c record { stage = stage; kept = kept } home writes
left_from c stage kept home writes is left =
    ⊎_elim
    (λ (clean : (stage ≡ Clean) × IsSettled c home). inl (clean_from c stage kept home clean.0 clean.1))
    (λ (at : IsAt c stage home writes). inr record { kept = is; images = at })
    left

-- What one commit leaves, from what the journal says of it.
use Rattle.std.proofs.Common.{◌≡◌, ◌⊎◌, inl, inr, ⊎_elim, subst, sym, refl}
use mathlib.Core.Path.{fun_ext}
use Rattle.std.specs.List.{AllByRecursion}
use Rattle.green_io.specs.Areas.{Areas}
use Rattle.green_io.specs.Disk.{DiskState, LeavesOnly}
use Rattle.green_io.proofs.Crash.{weaker}
use Rattle.page_journal.specs.Pages.{Bytes, Pages, Writes, pages_of, laid, home_after, AreSame, Extends}
use Rattle.page_journal.specs.JournalBytes.{AreWrites, opened}
use Rattle.page_journal.specs.JournalView.{JournalView, IsClean, IsUnfinished, IsLeft, IsFinished, AfterFinished}
use Rattle.page_journal.specs.Images.{GivesEither, GivesAny}
use Rattle.page_journal.proofs.PageMaps.{laid_over_itself}
use Rattle.page_saves.specs.Courses.{Course, IsOn, Lead}
use Rattle.page_saves.specs.Resting.{IsSettledOn, IsBetween, Rests}
use Rattle.page_saves.specs.inside.OneCommit.{GivesCourse}

pub on_same : (course : Course) (old new : Pages) → AreSame old new → IsOn course old → IsOn course new
on_same course old new same on =
    let is : old ≡ new = fun_ext (λ k. sym (same k)) in
    subst (IsOn course) is on

pub settled_leaves : (a b : DiskState) (was from to : Course) (writes : Writes) (home : Bytes) → Lead from writes to → IsOn from (pages_of home) → LeavesOnly a b (GivesEither (pages_of home) writes) → LeavesOnly a b (GivesCourse was from to)
settled_leaves a b was from to writes home lead on leaves =
    weaker a b (GivesEither (pages_of home) writes) (GivesCourse was from to) leaves (λ i either. ⊎_elim
    (λ (same : AreSame (pages_of home) (opened i)). inl (inr (on_same from (pages_of home) (opened i) same on)))
    (λ (more : Extends (laid writes (pages_of home)) (opened i)). inr (lead (pages_of home) (opened i) on more))
    either)

pub between_leaves : (a b : DiskState) (was from to : Course) (first writes : Writes) (before : Bytes) → Lead from writes to → IsOn was (pages_of before) → ((pages : Pages) → Extends (laid first (pages_of before)) pages → IsOn from pages)
    → LeavesOnly a b (GivesAny (pages_of before) first writes) → LeavesOnly a b (GivesCourse was from to)
between_leaves a b was from to first writes before lead had will leaves =
    weaker a b (GivesAny (pages_of before) first writes) (GivesCourse was from to) leaves (λ i any. ⊎_elim
    (λ (either : GivesEither (pages_of before) first i). ⊎_elim
    (λ (same : AreSame (pages_of before) (opened i)). inl (inl (on_same was (pages_of before) (opened i) same had)))
    (λ (more : Extends (laid first (pages_of before)) (opened i)). inl (inr (will (opened i) more)))
    either)
    (λ (more : Extends (laid writes (laid first (pages_of before))) (opened i)).
    inr (lead (laid first (pages_of before)) (opened i) (will (laid first (pages_of before)) (λ k page is. is)) more))
    any)

pub settled_after : (disk : DiskState) (journal : JournalView) (from to : Course) (writes : Writes) (home : Bytes) → AreWrites writes → Lead from writes to → IsOn from (pages_of home) → IsClean disk journal (home_after writes home) → IsSettledOn disk journal to
settled_after disk journal from to writes home are lead on clean = record {
  home = home_after writes home;
  clean = clean;
  on = lead (pages_of home) (pages_of (home_after writes home)) on (laid_over_itself writes home are.each);
}

pub left_after : (disk : DiskState) (journal : JournalView) (was from to : Course) (writes : Writes) (home : Bytes) → Lead from writes to → IsOn from (pages_of home) → IsLeft disk journal home writes → Rests disk journal was from ⊎ Rests disk journal from to
left_after disk journal was from to writes home lead on left = ⊎_elim
    (λ (clean : IsClean disk journal home). inl (inl record { home = home; clean = clean; on = on }))
    (λ (unfinished : IsUnfinished disk journal home writes). inr (inr record {
      before = home;
      writes = writes;
      unfinished = unfinished;
      had = on;
      will = λ pages more. lead (pages_of home) pages on more;
    }))
    left

pub finished_after : (disk : DiskState) (journal : JournalView) (was from to : Course) (first writes : Writes) (before : Bytes) → AreWrites writes → Lead from writes to → ((pages : Pages) → Extends (laid first (pages_of before)) pages → IsOn from pages)
    → AfterFinished before first (λ home. IsClean disk journal (home_after writes home)) → IsSettledOn disk journal to
finished_after disk journal was from to first writes before are lead will done =
    settled_after disk journal from to writes done.0 are lead (will (pages_of done.0) done.1.laid_over) done.2

pub failed_after : (disk : DiskState) (journal : JournalView) (was from to : Course) (first writes : Writes) (before : Bytes) → Lead from writes to → IsOn was (pages_of before) → ((pages : Pages) → Extends (laid first (pages_of before)) pages → IsOn from pages)
    → IsUnfinished disk journal before first ⊎ AfterFinished before first (λ home. IsLeft disk journal home writes) → Rests disk journal was from ⊎ Rests disk journal from to
failed_after disk journal was from to first writes before lead had will left = ⊎_elim
    (λ (unfinished : IsUnfinished disk journal before first). inl (inr record { before = before; writes = first; unfinished = unfinished; had = had; will = will }))
    (λ (done : AfterFinished before first (λ home. IsLeft disk journal home writes)).
    left_after disk journal was from to writes done.0 lead (will (pages_of done.0) done.1.laid_over) done.2)
    left

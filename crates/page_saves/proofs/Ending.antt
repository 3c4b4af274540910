-- The last page of a save makes its pages count.
use Rattle.std.proofs.Common.{◌⊎◌, inl, inr, ⊎_elim}
use Rattle.green_io.specs.Areas.{Areas}
use Rattle.green_io.specs.Disk.{DiskState, LeavesOnly}
use Rattle.green_io.proofs.Crash.{same, weaker}
use Rattle.page_journal.specs.Pages.{Writes}
use Rattle.page_journal.specs.JournalBytes.{opened}
use Rattle.page_journal.specs.JournalView.{JournalView}
use Rattle.page_saves.specs.Courses.{Saved, Holds, IsOn, begun, after, Lead, GivesOne, GivesOneOf}
use Rattle.page_saves.specs.Resting.{Rests, RestsOn, RestsAfter, IsSettledOn}
use Rattle.page_saves.specs.inside.OneCommit.{GivesCourse}
use Rattle.page_saves.proofs.Grouped.{AnyMoment, Done, Fails}
use Rattle.page_saves.proofs.Staying.{rests_less, begun_again, on_begun}

pub first-leaves : (a b : DiskState) (was saved next : Saved) → LeavesOnly a b (GivesOne was saved) → LeavesOnly a b (GivesOneOf was saved next)
first-leaves a b was saved next leaves = weaker a b (GivesOne was saved) (GivesOneOf was saved next) leaves (λ i gives. inl gives)

course-gives : (was saved next held : Saved) (written : Writes) (i : Areas) → (Holds held (opened i) → GivesOne was saved i) → GivesCourse (begun held) (after saved written) (begun next) i → GivesOneOf was saved next i
course-gives was saved next held written i has gives = ⊎_elim
    (λ (back : IsOn (begun held) (opened i) ⊎ IsOn (after saved written) (opened i)). ⊎_elim
    (λ (was_on : IsOn (begun held) (opened i)). inl (has was_on.holds))
    (λ (on : IsOn (after saved written) (opened i)). inl (inr on.holds))
    back)
    (λ (on : IsOn (begun next) (opened i)). inr on.holds)
    gives

pub last-leaves : (a b c : DiskState) (journal : JournalView) (was saved next : Saved) (written last : Writes) → Lead (after saved written) last (begun next) → LeavesOnly a b (GivesOne was saved) → RestsAfter b journal was saved written
    → AnyMoment b c journal last → LeavesOnly a c (GivesOneOf was saved next)
last-leaves a b c journal was saved next written last lead leaves rests any =
    let from = after saved written in
    let behind : LeavesOnly b c (GivesOneOf was saved next) = ⊎_elim
    (λ (older : Rests b journal (begun was) from). weaker b c (GivesCourse (begun was) from (begun next)) (GivesOneOf was saved next) (any (begun was) from (begun next) lead older) (λ i. course-gives was saved next was written i (λ has. inl has)))
    (λ (newer : Rests b journal (begun saved) from). weaker b c (GivesCourse (begun saved) from (begun next)) (GivesOneOf was saved next) (any (begun saved) from (begun next) lead newer) (λ i. course-gives was saved next saved written i (λ has. inr has)))
    rests
    in
    same a b c (GivesOneOf was saved next) (first-leaves a b was saved next leaves) behind

pub last-settles : (b c : DiskState) (journal now : JournalView) (was saved next : Saved) (written last : Writes) → Lead (after saved written) last (begun next) → RestsAfter b journal was saved written → Done b c journal now last → IsSettledOn c now (begun next)
last-settles b c journal now was saved next written last lead rests done = ⊎_elim
    (λ (older : Rests b journal (begun was) (after saved written)). done (begun was) (after saved written) (begun next) lead older)
    (λ (newer : Rests b journal (begun saved) (after saved written)). done (begun saved) (after saved written) (begun next) lead newer)
    rests

pub last-fails : (b c : DiskState) (journal now : JournalView) (was saved next : Saved) (written last : Writes) → Lead (after saved written) last (begun next) → RestsAfter b journal was saved written → Fails b c journal now last
    → RestsOn c now was saved ⊎ RestsOn c now saved next
last-fails b c journal now was saved next written last lead rests fails =
    let from = after saved written in
    let newest : Rests c now from (begun next) → RestsOn c now was saved ⊎ RestsOn c now saved next =
    λ is. inr (inl (rests_less c now from (begun next) (begun saved) (begun next) (on_begun saved written) (λ pages on. on) is)) in
    ⊎_elim
    (λ (older : Rests b journal (begun was) from). ⊎_elim
    (λ (still : Rests c now (begun was) from). inl (inl (begun_again c now (begun was) saved written still)))
    newest
    (fails (begun was) from (begun next) lead older))
    (λ (newer : Rests b journal (begun saved) from). ⊎_elim
    (λ (still : Rests c now (begun saved) from). inl (inr (begun_again c now (begun saved) saved written still)))
    newest
    (fails (begun saved) from (begun next) lead newer))
    rests

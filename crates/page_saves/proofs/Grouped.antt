-- Pages are written group by group.
use Rattle.std.proofs.Common.{◌≡◌, ◌≢◌, ◌⊎◌, inl, inr, ⊎_elim, List, [], ◌∷◌, ◌++◌, ap, ◌∙◌, sym, subst, refl, append-nil}
use Rattle.std.proofs.lemmas.List.{append_assoc}
use Rattle.green_io.specs.Areas.{Areas}
use Rattle.green_io.specs.Disk.{DiskState, LeavesOnly}
use Rattle.green_io.proofs.Crash.{same, weaker, none_called}
use Rattle.page_journal.specs.Pages.{PageBytes, Writes}
use Rattle.page_journal.specs.JournalBytes.{opened}
use Rattle.page_journal.specs.JournalView.{JournalView}
use Rattle.page_saves.specs.Courses.{Saved, Course, Holds, IsOn, begun, after, Lead, LeadsEach, GivesOne}
use Rattle.page_saves.specs.Resting.{Rests, RestsOn, RestsAfter, IsSettledOn}
use Rattle.page_saves.specs.inside.OneCommit.{GivesCourse}
use Rattle.page_saves.proofs.OneByOne.{leads-behind, lead-group}
use Rattle.page_saves.proofs.Staying.{begun_again, both_begun}

-- some pages of a save are written, and these are left
pub record SoFar (a b : DiskState) (journal : JournalView) (was saved : Saved) (all rest : Writes) : Type 0 where
  pub written : Writes
  pub parts : all ≡ written ++ rest
  pub leads : LeadsEach saved written rest
  pub rests : RestsAfter b journal was saved written
  pub leaves : LeavesOnly a b (GivesOne was saved)

pub none-written : (a : DiskState) (journal : JournalView) (was saved : Saved) (all : Writes) → LeadsEach saved [] all → RestsOn a journal was saved → SoFar a a journal was saved all all
none-written a journal was saved all each rests = record { written = []; parts = refl; leads = each; rests = rests; leaves = none_called a (GivesOne was saved) }

-- what a commit does, as its clauses say it
abbrev pub AnyMoment : DiskState → DiskState → JournalView → Writes → Type 0
AnyMoment b c journal writes = (was from to : Course) → Lead from writes to → Rests b journal was from → LeavesOnly b c (GivesCourse was from to)

abbrev pub Done : DiskState → DiskState → JournalView → JournalView → Writes → Type 0
Done b c journal now writes = (was from to : Course) → Lead from writes to → Rests b journal was from → IsSettledOn c now to

abbrev pub Fails : DiskState → DiskState → JournalView → JournalView → Writes → Type 0
Fails b c journal now writes = (was from to : Course) → Lead from writes to → Rests b journal was from → Rests c now was from ⊎ Rests c now from to

course-gives : (was saved held : Saved) (written more : Writes) (i : Areas) → (Holds held (opened i) → GivesOne was saved i) → GivesCourse (begun held) (after saved written) (after saved more) i → GivesOne was saved i
course-gives was saved held written more i has gives = ⊎_elim
    (λ (back : IsOn (begun held) (opened i) ⊎ IsOn (after saved written) (opened i)). ⊎_elim
    (λ (was_on : IsOn (begun held) (opened i)). has was_on.holds)
    (λ (on : IsOn (after saved written) (opened i)). inr on.holds)
    back)
    (λ (on : IsOn (after saved more) (opened i)). inr on.holds)
    gives

-- a group of pages, in one commit
pub group-leaves : (b c : DiskState) (journal : JournalView) (was saved : Saved) (written : Writes) (w : PageBytes) (ws rest : Writes) → LeadsEach saved written (w ∷ ws ++ rest) → RestsAfter b journal was saved written
    → AnyMoment b c journal (w ∷ ws) → LeavesOnly b c (GivesOne was saved)
group-leaves b c journal was saved written w ws rest leads rests any =
    let lead = lead-group saved written w ws rest leads in
    let from = after saved written in
    let to = after saved (written ++ w ∷ ws) in
    ⊎_elim
    (λ (older : Rests b journal (begun was) from). weaker b c (GivesCourse (begun was) from to) (GivesOne was saved) (any (begun was) from to lead older) (λ i. course-gives was saved was written (written ++ w ∷ ws) i (λ has. inl has)))
    (λ (newer : Rests b journal (begun saved) from). weaker b c (GivesCourse (begun saved) from to) (GivesOne was saved) (any (begun saved) from to lead newer) (λ i. course-gives was saved saved written (written ++ w ∷ ws) i (λ has. inr has)))
    rests

pub group-rests : (b c : DiskState) (journal now : JournalView) (was saved : Saved) (written : Writes) (w : PageBytes) (ws rest : Writes) → LeadsEach saved written (w ∷ ws ++ rest) → RestsAfter b journal was saved written
    → Done b c journal now (w ∷ ws) → RestsAfter c now was saved (written ++ w ∷ ws)
group-rests b c journal now was saved written w ws rest leads rests done =
    let lead = lead-group saved written w ws rest leads in
    let from = after saved written in
    let to = after saved (written ++ w ∷ ws) in
    ⊎_elim
    (λ (older : Rests b journal (begun was) from). inl (inl (done (begun was) from to lead older)))
    (λ (newer : Rests b journal (begun saved) from). inl (inl (done (begun saved) from to lead newer)))
    rests

pub group-fails : (b c : DiskState) (journal now : JournalView) (was saved : Saved) (written : Writes) (w : PageBytes) (ws rest : Writes) → LeadsEach saved written (w ∷ ws ++ rest) → RestsAfter b journal was saved written
    → Fails b c journal now (w ∷ ws) → RestsOn c now was saved
group-fails b c journal now was saved written w ws rest leads rests fails =
    let lead = lead-group saved written w ws rest leads in
    let from = after saved written in
    let to = after saved (written ++ w ∷ ws) in
    let behind : Rests c now from to → RestsOn c now was saved = λ newest. inr (both_begun c now saved written (written ++ w ∷ ws) newest) in
    ⊎_elim
    (λ (older : Rests b journal (begun was) from). ⊎_elim
    (λ (still : Rests c now (begun was) from). inl (begun_again c now (begun was) saved written still))
    behind
    (fails (begun was) from to lead older))
    (λ (newer : Rests b journal (begun saved) from). ⊎_elim
    (λ (still : Rests c now (begun saved) from). inr (begun_again c now (begun saved) saved written still))
    behind
    (fails (begun saved) from to lead newer))
    rests

pub some-first : (group : Writes) → group ≢ [] → (w : PageBytes) × (ws : Writes) × (group ≡ w ∷ ws)
some-first [] some = absurd (some refl)
some-first (w ∷ ws) some = (w, ws, refl)

pub group-more : (a b c : DiskState) (journal now : JournalView) (was saved : Saved) (all group rest : Writes) → group ≢ [] → SoFar a b journal was saved all (group ++ rest)
    → AnyMoment b c journal group → Done b c journal now group → SoFar a c now was saved all rest
group-more a b c journal now was saved all group rest some so_far any done =
    let first = some-first group some in
    let w = first.0 in
    let ws = first.1 in
    let leads = subst (λ (x : Writes). LeadsEach saved so_far.written (x ++ rest)) first.2 so_far.leads in
    let moment = subst (AnyMoment b c journal) first.2 any in
    let ok = subst (Done b c journal now) first.2 done in
    record {
      written = so_far.written ++ w ∷ ws;
      parts = so_far.parts ∙ ap (λ (x : Writes). so_far.written ++ (x ++ rest)) first.2 ∙ sym (append_assoc so_far.written (w ∷ ws) rest);
      leads = leads-behind saved so_far.written (w ∷ ws) rest leads;
      rests = group-rests b c journal now was saved so_far.written w ws rest leads so_far.rests ok;
      leaves = same a b c (GivesOne was saved) so_far.leaves (group-leaves b c journal was saved so_far.written w ws rest leads so_far.rests moment);
    }

pub group-stopped : (a b c : DiskState) (journal : JournalView) (was saved : Saved) (all group rest : Writes) → group ≢ [] → SoFar a b journal was saved all (group ++ rest)
    → AnyMoment b c journal group → LeavesOnly a c (GivesOne was saved)
group-stopped a b c journal was saved all group rest some so_far any =
    let first = some-first group some in
    let leads = subst (λ (x : Writes). LeadsEach saved so_far.written (x ++ rest)) first.2 so_far.leads in
    same a b c (GivesOne was saved) so_far.leaves (group-leaves b c journal was saved so_far.written first.0 first.1 rest leads so_far.rests (subst (AnyMoment b c journal) first.2 any))

pub group-left : (a b c : DiskState) (journal now : JournalView) (was saved : Saved) (all group rest : Writes) → group ≢ [] → SoFar a b journal was saved all (group ++ rest)
    → Fails b c journal now group → RestsOn c now was saved
group-left a b c journal now was saved all group rest some so_far fails =
    let first = some-first group some in
    let leads = subst (λ (x : Writes). LeadsEach saved so_far.written (x ++ rest)) first.2 so_far.leads in
    group-fails b c journal now was saved so_far.written first.0 first.1 rest leads so_far.rests (subst (Fails b c journal now) first.2 fails)

-- no memory for a group: what is written is forgotten
pub still-rests : (a b : DiskState) (journal : JournalView) (was saved : Saved) (all rest : Writes) → SoFar a b journal was saved all rest → RestsOn b journal was saved
still-rests a b journal was saved all rest so_far = ⊎_elim
    (λ (older : Rests b journal (begun was) (after saved so_far.written)). inl (begun_again b journal (begun was) saved so_far.written older))
    (λ (newer : Rests b journal (begun saved) (after saved so_far.written)). inr (begun_again b journal (begun saved) saved so_far.written newer))
    so_far.rests

-- nothing is left: all pages are written
pub all-written : (a b : DiskState) (journal : JournalView) (was saved : Saved) (all rest : Writes) → rest ≡ [] → SoFar a b journal was saved all rest → RestsAfter b journal was saved all
all-written a b journal was saved all rest none so_far =
    let whole : so_far.written ≡ all = sym (so_far.parts ∙ ap (λ (x : Writes). so_far.written ++ x) none ∙ append-nil so_far.written) in
    subst (RestsAfter b journal was saved) whole so_far.rests

-- What is seen of a history, one entry after the other.
use Rattle.std.proofs.Common.{◌≡◌, ℕ, ◌+◌, ◌≤◌, ◌==◌, ◌∙◌, Bool, true, false, cond, List, [], ◌∷◌, length, drop, sym, subst, refl, arith}
use Rattle.std.specs.List.{fold}
use Rattle.std.proofs.lemmas.List.{at_drop_all, drop_all}
use Rattle.world_rules.specs.Fitting.{AreFitting}
use Rattle.std.proofs.lemmas.Bool.{eqb-true, eq-eqb, true≢false}
use Rattle.febe_data.specs.Plain.{PlainEntry, plain_history}
use Rattle.febe_data.specs.declared.entry.Entry.{Entry}
use Rattle.world_rules.specs.declared.rows.SessionRow.{SessionRow}
use Rattle.world_rules.specs.Apply.{apply}
use Rattle.world_rules.specs.History.{is_durable, durable_entries, entries_of}
use Rattle.world_rules.specs.FlatView.{FlatView, nothing_yet, after_entry, view_of, with_entry, entries_in}
use Rattle.world_rules.specs.FoldLaws.{FoldsToWorld, CountsKept, CountsEntries}

-- ---- the world

world_along : (view : FlatView) (history : List PlainEntry) → (fold after_entry view history).world ≡ fold apply view.world history
world_along view [] = refl
world_along view (entry ∷ history) = world_along (after_entry view entry) history

pub folds_to_world : FoldsToWorld
folds_to_world history = world_along nothing_yet history

-- ---- the number of kept entries

counted_step : (view : FlatView) (entry : PlainEntry) (history : List PlainEntry) (counts : Bool) → is_durable entry.change ≡ counts
    → (fold after_entry (after_entry view entry) history).counted ≡ (after_entry view entry).counted + length (durable_entries history)
    → (fold after_entry (after_entry view entry) history).counted ≡ view.counted + length (durable_entries (entry ∷ history))
counted_step view entry history true e rest = rest ∙ rw e (omega arith)
counted_step view entry history false e rest = rest ∙ rw e refl

counted_along : (view : FlatView) (history : List PlainEntry) → (fold after_entry view history).counted ≡ view.counted + length (durable_entries history)
counted_along view [] = omega arith
counted_along view (entry ∷ history) = counted_step view entry history (is_durable entry.change) refl (counted_along (after_entry view entry) history)

pub counts_kept : CountsKept
counts_kept history = counted_along nothing_yet history ∙ omega arith

-- ---- the entries of each session

-- an entry of a session is one more for that one only
one_step : (session other : ℕ) (row : SessionRow) (rows : List SessionRow) (a b c : Bool) → (row.session == session) ≡ a → (row.session == other) ≡ b → (session == other) ≡ c
    → entries_in (with_entry session rows) other ≡ entries_in rows other + cond (session == other) 1 0
    → entries_in (with_entry session (row ∷ rows)) other ≡ entries_in (row ∷ rows) other + cond (session == other) 1 0
one_step session other row rows true true true e f g rest = rw (e, f, g) refl
one_step session other row rows true true false e f g rest = absurd (true≢false (sym (eq-eqb session other (sym (eqb-true row.session session e) ∙ eqb-true row.session other f)) ∙ g))
one_step session other row rows true false true e f g rest = absurd (true≢false (sym (eq-eqb row.session other (eqb-true row.session session e ∙ eqb-true session other g)) ∙ f))
one_step session other row rows true false false e f g rest = rw (e, f, g) (omega arith)
one_step session other row rows false true true e f g rest = absurd (true≢false (sym (eq-eqb row.session session (eqb-true row.session other f ∙ sym (eqb-true session other g))) ∙ e))
one_step session other row rows false true false e f g rest = rw (e, f, g) (omega arith)
one_step session other row rows false false c e f g rest = rw (e, f) rest

one_more : (session other : ℕ) (rows : List SessionRow) → entries_in (with_entry session rows) other ≡ entries_in rows other + cond (session == other) 1 0
one_more session other [] = first (session == other) refl
  where
    first : (same : Bool) → (session == other) ≡ same → entries_in (with_entry session []) other ≡ 0 + cond (session == other) 1 0
    first true e = rw e (omega arith)
    first false e = rw e (omega arith)
one_more session other (row ∷ rows) = one_step session other row rows (row.session == session) (row.session == other) (session == other) refl refl refl (one_more session other rows)

entries_step : (view : FlatView) (entry : PlainEntry) (history : List PlainEntry) (session : ℕ) (same : Bool) → (entry.session == session) ≡ same
    → entries_in (fold after_entry (after_entry view entry) history).sessions session ≡ entries_in (with_entry entry.session view.sessions) session + length (entries_of session history)
    → entries_in (fold after_entry (after_entry view entry) history).sessions session ≡ entries_in view.sessions session + length (entries_of session (entry ∷ history))
entries_step view entry history session true e rest =
    let more : entries_in (with_entry entry.session view.sessions) session ≡ entries_in view.sessions session + 1 = one_more entry.session session view.sessions ∙ rw e refl in
    rest ∙ rw (more, e) (omega arith)
entries_step view entry history session false e rest =
    let more : entries_in (with_entry entry.session view.sessions) session ≡ entries_in view.sessions session + 0 = one_more entry.session session view.sessions ∙ rw e refl in
    rest ∙ rw (more, e) (omega arith)

entries_along : (view : FlatView) (history : List PlainEntry) (session : ℕ) → entries_in (fold after_entry view history).sessions session ≡ entries_in view.sessions session + length (entries_of session history)
entries_along view [] session = omega arith
entries_along view (entry ∷ history) session = entries_step view entry history session (entry.session == session) refl (entries_along (after_entry view entry) history session)

pub counts_entries : CountsEntries
counts_entries history session = entries_along nothing_yet history session ∙ omega arith

-- ---- the entries of the code

-- where no entry is left, the view is that of them all
pub all_folded : (view : FlatView) (items entries : List Entry) (i : ℕ) → items ≡ entries → length items ≤ i → fold after_entry view (plain_history (drop i entries)) ≡ view_of (plain_history entries)
    → view ≡ view_of (plain_history entries)
all_folded view items entries i e past before =
    let F : List Entry → FlatView = λ rest. fold after_entry view (plain_history rest) in
    let ended : length entries ≤ i = rw e at past in
    sym (at_drop_all F entries i ended) ∙ before

-- where no entry is left, all were fitting
pub all_fitting : (items entries : List Entry) (i : ℕ) → items ≡ entries → length items ≤ i → (AreFitting (plain_history (drop i entries)) → AreFitting (plain_history entries)) → AreFitting (plain_history entries)
all_fitting items entries i e past before =
    let ended : length entries ≤ i = rw e at past in
    before (subst (λ (rest : List Entry). AreFitting (plain_history rest)) (sym (drop_all i entries ended)) tt)

-- The rows that count the sessions' entries.
use Rattle.std.proofs.Common.{◌≡◌, ℕ, zero, suc, ◌+◌, ◌<◌, ◌≤◌, ◌==◌, ◌∙◌, Bool, true, false, cond, List, [], ◌∷◌, ◌++◌, length, get_or, set, Some, None, ap, sym, refl, arith}
use Rattle.std.specs.Prelude.{nat_lt}
use Rattle.std.specs.List.{position, position_or_len, list_any}
use Rattle.std.proofs.lemmas.Bool.Decides.{nat_tests}
use Rattle.std.proofs.lemmas.List.Quantifiers.{position-Some}
use Rattle.world_rules.specs.declared.rows.SessionRow.{SessionRow}
use Rattle.std.proofs.lemmas.Bool.{true≢false}
use Rattle.world_rules.specs.FlatView.{entries_in, with_entry}
use Rattle.world_rules.specs.InPlace.{HasRoom}

abbrev is_of : ℕ → SessionRow → Bool
is_of session row = row.session == session

-- the first row of the session is the one that is raised
raises_at : (session : ℕ) (rows : List SessionRow) (k : ℕ) (d : SessionRow) → k < length rows → is_of session (get_or rows k d) ≡ true → ((j : ℕ) → j < k → is_of session (get_or rows j d) ≡ false)
    → with_entry session rows ≡ set rows k (record (get_or rows k d) { entries = (get_or rows k d).entries + 1 })
raises_at session [] k d lt found before = absurd (omega arith)
raises_at session (row ∷ rows) zero d lt found before = rw found refl
raises_at session (row ∷ rows) (suc k) d lt found before =
    rw (before 0 (omega arith)) (ap (λ (rest : List SessionRow). row ∷ rest) (raises_at session rows k d (omega arith) found (λ j l. before (suc j) (omega arith))))

entries_at : (session : ℕ) (rows : List SessionRow) (k : ℕ) (d : SessionRow) → k < length rows → is_of session (get_or rows k d) ≡ true → ((j : ℕ) → j < k → is_of session (get_or rows j d) ≡ false)
    → entries_in rows session ≡ (get_or rows k d).entries
entries_at session [] k d lt found before = absurd (omega arith)
entries_at session (row ∷ rows) zero d lt found before = rw found refl
entries_at session (row ∷ rows) (suc k) d lt found before =
    rw (before 0 (omega arith)) (entries_at session rows k d (omega arith) found (λ j l. before (suc j) (omega arith)))

pub raises : (session : ℕ) (rows : List SessionRow) (k : ℕ) (d : SessionRow) → position (λ (row : SessionRow). row.session == session) rows ≡ Some k
    → with_entry session rows ≡ set rows k (record (get_or rows k d) { entries = (get_or rows k d).entries + 1 })
raises session rows k d e = let at = position-Some (is_of session) rows k d e in raises_at session rows k d at.0 at.1 at.2

pub entries_found : (session : ℕ) (rows : List SessionRow) (k : ℕ) (d : SessionRow) → position (λ (row : SessionRow). row.session == session) rows ≡ Some k → entries_in rows session ≡ (get_or rows k d).entries
entries_found session rows k d e = let at = position-Some (is_of session) rows k d e in entries_at session rows k d at.0 at.1 at.2

pub entries_read : (session : ℕ) (rows : List SessionRow) (k : ℕ) (row : SessionRow) → position (λ (row : SessionRow). row.session == session) rows ≡ Some k → row ≡ get_or rows k row → entries_in rows session ≡ row.entries
entries_read session rows k row e here = entries_found session rows k row e ∙ ap (λ (r : SessionRow). r.entries) (sym here)

pub place_within : (session : ℕ) (rows : List SessionRow) (k : ℕ) → position (λ (row : SessionRow). row.session == session) rows ≡ Some k → k < length rows
place_within session rows k e = (position-Some (is_of session) rows k (record { session = 0; entries = 0 }) e).0

-- ---- a session that has no row

none_within : (a b : ℕ) (within : Bool) → nat_lt a b ≡ within → cond within (Some a) None ≡ None → b ≤ a
none_within a b true e none = cc
none_within a b false e none = grind (arith, nat_tests)

appends_step : (session : ℕ) (row : SessionRow) (rows : List SessionRow) (passes : Bool) → is_of session row ≡ passes → length (row ∷ rows) ≤ position_or_len (is_of session) (row ∷ rows)
    → (length rows ≤ position_or_len (is_of session) rows → with_entry session rows ≡ rows ++ record { session = session; entries = 1 } ∷ [])
    → with_entry session (row ∷ rows) ≡ (row ∷ rows) ++ record { session = session; entries = 1 } ∷ []
appends_step session row rows true e past rest = absurd (let none : length (row ∷ rows) ≤ 0 = rw e at past in omega arith)
appends_step session row rows false e past rest = rw e (ap (λ (more : List SessionRow). row ∷ more) (rest (let less : length (row ∷ rows) ≤ 1 + position_or_len (is_of session) rows = rw e at past in omega arith)))

appends_past : (session : ℕ) (rows : List SessionRow) → length rows ≤ position_or_len (is_of session) rows → with_entry session rows ≡ rows ++ record { session = session; entries = 1 } ∷ []
appends_past session [] past = refl
appends_past session (row ∷ rows) past = appends_step session row rows (is_of session row) refl past (appends_past session rows)

none_past : (session : ℕ) (rows : List SessionRow) → position (is_of session) rows ≡ None → length rows ≤ position_or_len (is_of session) rows
none_past session rows e = none_within (position_or_len (is_of session) rows) (length rows) (nat_lt (position_or_len (is_of session) rows) (length rows)) refl e

pub appends : (session : ℕ) (rows : List SessionRow) → position (λ (row : SessionRow). row.session == session) rows ≡ None → with_entry session rows ≡ rows ++ record { session = session; entries = 1 } ∷ []
appends session rows e = appends_past session rows (none_past session rows e)

entries_step : (session : ℕ) (row : SessionRow) (rows : List SessionRow) (passes : Bool) → is_of session row ≡ passes → length (row ∷ rows) ≤ position_or_len (is_of session) (row ∷ rows)
    → (length rows ≤ position_or_len (is_of session) rows → entries_in rows session ≡ 0) → entries_in (row ∷ rows) session ≡ 0
entries_step session row rows true e past rest = absurd (let none : length (row ∷ rows) ≤ 0 = rw e at past in omega arith)
entries_step session row rows false e past rest = rw e (rest (let less : length (row ∷ rows) ≤ 1 + position_or_len (is_of session) rows = rw e at past in omega arith))

entries_past : (session : ℕ) (rows : List SessionRow) → length rows ≤ position_or_len (is_of session) rows → entries_in rows session ≡ 0
entries_past session [] past = refl
entries_past session (row ∷ rows) past = entries_step session row rows (is_of session row) refl past (entries_past session rows)

pub no_entries : (session : ℕ) (rows : List SessionRow) → position (λ (row : SessionRow). row.session == session) rows ≡ None → entries_in rows session ≡ 0
no_entries session rows e = entries_past session rows (none_past session rows e)

known_step : (session : ℕ) (row : SessionRow) (rows : List SessionRow) (passes : Bool) → is_of session row ≡ passes → length (row ∷ rows) ≤ position_or_len (is_of session) (row ∷ rows)
    → (length rows ≤ position_or_len (is_of session) rows → list_any (is_of session) rows ≡ false) → list_any (is_of session) (row ∷ rows) ≡ false
known_step session row rows true e past rest = absurd (let none : length (row ∷ rows) ≤ 0 = rw e at past in omega arith)
known_step session row rows false e past rest = rw e (rest (let less : length (row ∷ rows) ≤ 1 + position_or_len (is_of session) rows = rw e at past in omega arith))

known_past : (session : ℕ) (rows : List SessionRow) → length rows ≤ position_or_len (is_of session) rows → list_any (is_of session) rows ≡ false
known_past session [] past = refl
known_past session (row ∷ rows) past = known_step session row rows (is_of session row) refl past (known_past session rows)

pub not_known : (session : ℕ) (rows : List SessionRow) → position (λ (row : SessionRow). row.session == session) rows ≡ None → list_any (λ (row : SessionRow). row.session == session) rows ≡ false
not_known session rows e = known_past session rows (none_past session rows e)

-- where the session has a row, it is found
pub room_is_known : (session : ℕ) (rows : List SessionRow) → HasRoom rows session → position (λ (row : SessionRow). row.session == session) rows ≡ None → ⊥
room_is_known session rows room none = let known : list_any (λ (row : SessionRow). row.session == session) rows ≡ true = room.known in absurd (true≢false (sym known ∙ not_known session rows none))

pub ruleset counted = (raises, entries_found, place_within, appends, no_entries, not_known)

-- Sessions that are live, and lists of them.
use Rattle.std.proofs.Common.{◌≡◌, ℕ, ◌+◌, ◌≤◌, ◌==◌, ◌⊎◌, inl, inr, ◌∙◌, Bool, true, false, not, max, List, [], ◌∷◌, ◌++◌, length, refl, ap, sym, arith}
use Rattle.std.specs.Prelude.{◌||◌, ◌&&◌, filter, if◌then◌else◌}
use Rattle.std.specs.List.{fold, list_any}
use Rattle.std.proofs.lemmas.Bool.{eqb-true, eq-eqb, or_left, or_right, or_cases, and_parts}
use Rattle.std.proofs.lemmas.List.Folds.{list_any-append}
use Rattle.febe_data.specs.Plain.{PlainChange, PlainEntry, restarted, began, ended}
use Rattle.world_rules.specs.declared.rows.SessionRow.{SessionRow}
use Rattle.world_rules.specs.FlatView.{FlatView, nothing_yet, after_entry, view_of, with_entry}
use Rattle.world_rules.specs.History.{is_live, live_after}
use Rattle.green_store.specs.Sessions.{greatest_session}

-- ---- what a live session has

-- a session that is live after an entry has made it, or was live before it
live_step : (session : ℕ) (live : Bool) (maker serial : ℕ) (change : PlainChange) → live_after session live (record { session = maker; serial = serial; change = change }) ≡ true
    → (maker ≡ session) ⊎ (live ≡ true)
live_step session live maker serial restarted is = absurd cc
live_step session live maker serial began is = elim (or_cases (maker == session) live is) [ inl own ↦ inl (eqb-true maker session own) | inr was ↦ inr was ]
live_step session live maker serial ended is = inr (and_parts (not (maker == session)) live is).1
live_step session live maker serial other is = inr is

-- what each entry gives its session, and no entry takes away, a live session has
along : {S : Type 0} (step : S → PlainEntry → S) (P : S → Type 0) (session : ℕ) → ((state : S) (e : PlainEntry) → e.session ≡ session → P (step state e))
    → ((state : S) (e : PlainEntry) → P state → P (step state e)) → (h : List PlainEntry) (live : Bool) (state : S) → (live ≡ true → P state)
    → fold (live_after session) live h ≡ true → P (fold step state h)
along step P session gives keeps [] live state known is = known is
along step P session gives keeps (e ∷ h) live state known is =
    along step P session gives keeps h (live_after session live e) (step state e)
    (λ after. elim (live_step session live e.session e.serial e.change after) [ inl own ↦ gives state e own | inr was ↦ keeps state e (known was) ]) is

-- no live session is above the greatest
pub live_within : (h : List PlainEntry) (session : ℕ) → is_live h session ≡ true → session ≤ greatest_session h
live_within h session is =
    let step : ℕ → PlainEntry → ℕ = λ greatest e. max greatest e.session in
    let P : ℕ → Type 0 = λ greatest. session ≤ greatest in
    along step P session (λ greatest e own. omega arith) (λ greatest e within. omega arith) h false 0 (λ no. absurd cc) is

abbrev has_row : List SessionRow → ℕ → Bool
has_row rows session = list_any (λ (row : SessionRow). row.session == session) rows

given_step : (maker session : ℕ) (row : SessionRow) (rows : List SessionRow) (b : Bool) → (row.session == maker) ≡ b → maker ≡ session → has_row (with_entry maker rows) session ≡ true
    → has_row (if b then record row { entries = row.entries + 1 } ∷ rows else row ∷ with_entry maker rows) session ≡ true
given_step maker session row rows true e same rest = or_left (row.session == session) (has_row rows session) (eq-eqb row.session session (eqb-true row.session maker e ∙ same))
given_step maker session row rows false e same rest = or_right (row.session == session) (has_row (with_entry maker rows) session) rest

given_row : (maker session : ℕ) (rows : List SessionRow) → maker ≡ session → has_row (with_entry maker rows) session ≡ true
given_row maker session [] same = or_left (maker == session) false (eq-eqb maker session same)
given_row maker session (row ∷ rows) same = given_step maker session row rows (row.session == maker) refl same (given_row maker session rows same)

kept_step : (maker session : ℕ) (row : SessionRow) (rows : List SessionRow) (b : Bool) → (has_row rows session ≡ true → has_row (with_entry maker rows) session ≡ true)
    → has_row (row ∷ rows) session ≡ true → has_row (if b then record row { entries = row.entries + 1 } ∷ rows else row ∷ with_entry maker rows) session ≡ true
kept_step maker session row rows true rest is = is
kept_step maker session row rows false rest is =
    elim (or_cases (row.session == session) (has_row rows session) is) [
      | inl own ↦ or_left (row.session == session) (has_row (with_entry maker rows) session) own
      | inr had ↦ or_right (row.session == session) (has_row (with_entry maker rows) session) (rest had)
    ]

kept_row : (maker session : ℕ) (rows : List SessionRow) → has_row rows session ≡ true → has_row (with_entry maker rows) session ≡ true
kept_row maker session [] is = absurd cc
kept_row maker session (row ∷ rows) is = kept_step maker session row rows (row.session == maker) (kept_row maker session rows) is

-- the entries of each live session are counted
pub live_known : (h : List PlainEntry) (session : ℕ) → is_live h session ≡ true → has_row (view_of h).sessions session ≡ true
live_known h session is =
    let P : FlatView → Type 0 = λ view. has_row view.sessions session ≡ true in
    along after_entry P session (λ view e own. given_row e.session session view.sessions own) (λ view e had. kept_row e.session session view.sessions had) h false nothing_yet (λ no. absurd cc) is

-- ---- lists of live sessions

abbrev is_in : List ℕ → ℕ → Bool
is_in live session = list_any (λ s. s == session) live

eqb_swap : (a b : ℕ) → (a == b) ≡ (b == a)
eqb_swap a b = by (a == b) (b == a) refl refl
  where
    by : (x y : Bool) → (a == b) ≡ x → (b == a) ≡ y → x ≡ y
    by true true e f = refl
    by false false e f = refl
    by true false e f = sym (eq-eqb b a (sym (eqb-true a b e))) ∙ f
    by false true e f = sym e ∙ eq-eqb a b (sym (eqb-true b a f))

-- one more session is live
pub joined : (live : List ℕ) (maker session : ℕ) → is_in (live ++ maker ∷ []) session ≡ (maker == session || is_in live session)
joined live maker session = list_any-append (λ s. s == session) live (maker ∷ []) ∙ swapped (is_in live session) (maker == session)
  where
    swapped : (a b : Bool) → (a || (b || false)) ≡ (b || a)
    swapped true true = refl
    swapped true false = refl
    swapped false true = refl
    swapped false false = refl

abbrev left : ℕ → List ℕ → List ℕ
left maker live = filter (λ s. not (s == maker)) live

left_step : (maker session s : ℕ) (live : List ℕ) (b c : Bool) → (s == maker) ≡ b → (maker == session) ≡ c → is_in (left maker live) session ≡ (not (maker == session) && is_in live session)
    → is_in (if not b then s ∷ left maker live else left maker live) session ≡ (not (maker == session) && (s == session || is_in live session))
left_step maker session s live true true e f rest = rest ∙ rw f refl
left_step maker session s live true false e f rest =
    let other : (s == session) ≡ false = ap (λ (n : ℕ). n == session) (eqb-true s maker e) ∙ f in
    rest ∙ rw (f, other) refl
left_step maker session s live false true e f rest =
    let other : (s == session) ≡ false = ap (λ (n : ℕ). s == n) (sym (eqb-true maker session f)) ∙ e in
    rw (other, rest, f) refl
left_step maker session s live false false e f rest = rw (rest, f) refl

-- one session is live no longer
pub parted : (live : List ℕ) (maker session : ℕ) → is_in (left maker live) session ≡ (not (maker == session) && is_in live session)
parted [] maker session = by (not (maker == session))
  where
    by : (b : Bool) → false ≡ (b && false)
    by true = refl
    by false = refl
parted (s ∷ live) maker session = left_step maker session s live (s == maker) (maker == session) refl refl (parted live maker session)

left_fewer : (maker : ℕ) (live : List ℕ) → length (left maker live) ≤ length live
left_fewer maker [] = omega arith
left_fewer maker (s ∷ live) = by (s == maker) (left_fewer maker live)
  where
    by : (b : Bool) → length (left maker live) ≤ length live → length (if not b then s ∷ left maker live else left maker live) ≤ length (s ∷ live)
    by true fewer = omega arith
    by false fewer = omega arith

fewer_step : (maker s : ℕ) (live : List ℕ) (b : Bool) → (b || is_in live maker) ≡ true → (is_in live maker ≡ true → length (left maker live) + 1 ≤ length live)
    → length (if not b then s ∷ left maker live else left maker live) + 1 ≤ length (s ∷ live)
fewer_step maker s live true is rest = omega (arith, left_fewer maker live)
fewer_step maker s live false is rest = let fewer = rest is in omega arith

-- then there is one less, or more
pub parted_fewer : (live : List ℕ) (maker : ℕ) → is_in live maker ≡ true → length (left maker live) + 1 ≤ length live
parted_fewer [] maker is = absurd cc
parted_fewer (s ∷ live) maker is = fewer_step maker s live (s == maker) is (parted_fewer live maker)

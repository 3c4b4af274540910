-- Places that stand before others: the lesser of two, the least of several, and the one just before.
use Rattle.std.proofs.Common.{◌≡◌, ◌≢◌, ℕ, ◌+◌, ◌<◌, ◌≤◌, List, [], ◌∷◌, length, get_or, take, map, refl, ap, ◌∙◌, subst, inl, inr}
use Rattle.std.specs.List.{All}
use Rattle.std.proofs.lemmas.List.{take_all}
use Rattle.std.proofs.lemmas.List.Elements.{All-head, All-cons, All-weaker, All-more, All-map}
use Rattle.tumbler.specs.Places.{IsTumbler, IsBefore, IsUpTo, just_before}
use Rattle.tumbler.specs.Laws.{StandsBefore}
use Rattle.tumbler.proofs.Order.{upto_itself, upto_if_before, upto_upto, before_upto, upto_or_before}
use Rattle.tumbler.proofs.Before.{before_if_true, up_to_if_false, up_to_none, none_up_to}
use Rattle.tumbler.proofs.JustBefore.{just_before_stands}
use Rattle.enfilade_core.specs.declared.tree.Row.{Row}
use Rattle.enfilade_core.specs.Axes.{Widths, InOrder, IsWellFormedRow, IsWellFormedRows}
use Rattle.enfilade_core.specs.Plain.{plain_row}

pub ruleset lesser_place = (upto_itself, upto_if_before, before_if_true, up_to_if_false)

-- ---- the least of several

pub least-more : {A : Type 0} (coordinate : A → List ℕ) (xs : List A) (i : ℕ) (x : A) (old new : List ℕ) → i < length xs → x ≡ get_or xs i x → All (λ y. IsUpTo old (coordinate y)) (take i xs) → IsUpTo new old → IsUpTo new (coordinate x) → All (λ y. IsUpTo new (coordinate y)) (take (i + 1) xs)
least-more {A} coordinate xs i x old new lt at h le here =
    let P : A → Type 0 = λ y. IsUpTo new (coordinate y) in
    All-more P xs i x lt (All-weaker (λ y. IsUpTo old (coordinate y)) P (λ y k. upto_upto new old (coordinate y) le k) (take i xs) h) (subst P at here)

pub least-all : {A : Type 0} (P : A → Type 0) (xs : List A) (i : ℕ) → length xs ≤ i → All P (take i xs) → All P xs
least-all P xs i le h = subst (All P) (take_all i xs le) h

-- ---- just before

none_before : (b : List ℕ) → b ≢ [] → IsBefore [] b
none_before b some = elim (upto_or_before b []) [
  | inl le ↦ absurd (some (up_to_none b le))
  | inr lt ↦ lt
]

before_further : (a b c : List ℕ) → StandsBefore a b → IsUpTo b c → c ≢ [] → IsBefore a c
before_further a [] c s le some = rw (up_to_none a s.up_to) (none_before c some)
before_further a (x ∷ b) c s le some = before_upto a (x ∷ b) c (s.before (λ q. cc)) le

-- what stands before a coordinate stands before those behind it
pub stands_further : (a b c : List ℕ) → StandsBefore a b → IsUpTo b c → StandsBefore a c
stands_further a b c s le = record { is_tumbler = s.is_tumbler; up_to = upto_upto a b c s.up_to le; before = before_further a b c s le }

pub just_before_all : {A : Type 0} (coordinate : A → List ℕ) (xs : List A) (least made : List ℕ) → IsTumbler least → made ≡ just_before least → All (λ x. IsUpTo least (coordinate x)) xs → All (λ x. StandsBefore made (coordinate x)) xs
just_before_all coordinate xs least made t is h =
    All-weaker (λ x. IsUpTo least (coordinate x)) (λ x. StandsBefore made (coordinate x)) (λ x le. rw is (stands_further (just_before least) least (coordinate x) (just_before_stands least t) le)) xs h

-- ---- rows

up_to_all : {L : Type 0} (row : Row L) (rows : List (Row L)) → InOrder (row ∷ rows) → All (λ r. IsUpTo row.first r.first) (row ∷ rows)
up_to_all row rows h = All-cons (λ r. IsUpTo row.first r.first) row rows (upto_itself row.first) h.0

-- before the first of rows in order is before all of them
pub before_rows : {L : Type 0} (plain : L → L) (w : Widths L) (rows : List (Row L)) (row : Row L) (made : List ℕ) → rows ≢ [] → row ≡ get_or rows 0 row → made ≡ just_before row.first → IsWellFormedRows w (map (plain_row plain) rows) → All (λ r. StandsBefore made r.first) (map (plain_row plain) rows)
before_rows plain w [] row made some at is well_formed = absurd (some refl)
before_rows plain w (head ∷ rows) row made some at is well_formed =
    let first = All-head (IsWellFormedRow w) (plain_row plain head) (map (plain_row plain) rows) well_formed.each in
    just_before_all (λ r. r.first) (map (plain_row plain) (head ∷ rows)) head.first made first.first_coordinate (is ∙ ap (λ r. just_before r.first) at)
    (up_to_all (plain_row plain head) (map (plain_row plain) rows) well_formed.ordered)

-- what holds of places holds of rows as they are compared
pub before_plain : {L : Type 0} (plain : L → L) (rows : List (Row L)) (made : List ℕ) → All (λ r. StandsBefore made r.second) rows → All (λ r. StandsBefore made r.second) (map (plain_row plain) rows)
before_plain plain rows made h = All-map (λ r. StandsBefore made r.second) (plain_row plain) rows h

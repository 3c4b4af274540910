-- What begins at a coordinate and is so wide, beside a range.
use Rattle.std.proofs.Common.{◌≡◌, ◌≢◌, ◌⊎◌, ℕ, ◌&&◌, true, false, not, List, [], ◌∷◌, length, eqb, refl, arith, sym, subst, inl, inr}
use Rattle.std.specs.Prelude.{◌↔◌, IsTrue}
use Rattle.std.proofs.lemmas.Bool.{and_parts, and_from, not-true, not_from_false}
use Rattle.std.proofs.lemmas.Bool.Decides.{nat_tests}
use Rattle.tumbler.specs.Places.{IsTumbler, IsBefore, IsUpTo, comes_before, sum}
use Rattle.tumbler.specs.Span.{IsIn, Share, end_of}
use Rattle.tumbler.specs.declared.span.Span.{Span}
use Rattle.tumbler.proofs.Order.{upto_itself, upto_if_before, upto_before, upto_or_before}
use Rattle.tumbler.proofs.Before.{before_if_true, true_if_before, up_to_if_false, false_if_up_to}
use Rattle.tumbler.proofs.Spans.{are_places}
use Rattle.enfilade_core.specs.Axes.{Widths, later}
use Rattle.enfilade_core.proofs.Later.{later-first, later-second}
use Rattle.enfilade_search.specs.Meeting.{lies_between, touches}
use Rattle.enfilade_search.specs.Laws.{MeetsExactly}

-- ---- the later of two places

pub first_up_to_later : (a b : List ℕ) → IsUpTo a (later a b)
first_up_to_later a b = elim (upto_or_before b a) [
  | inl le ↦ subst (IsUpTo a) (sym (later-first a b le)) (upto_itself a)
  | inr lt ↦ subst (IsUpTo a) (sym (later-second a b lt)) (upto_if_before a b lt)
]

pub second_up_to_later : (a b : List ℕ) → IsUpTo b (later a b)
second_up_to_later a b = elim (upto_or_before b a) [
  | inl le ↦ subst (IsUpTo b) (sym (later-first a b le)) le
  | inr lt ↦ subst (IsUpTo b) (sym (later-second a b lt)) (upto_itself b)
]

later_is : (P : List ℕ → Type 0) (a b : List ℕ) → P a → P b → P (later a b)
later_is P a b p q = elim (upto_or_before b a) [
  | inl le ↦ subst P (sym (later-first a b le)) p
  | inr lt ↦ subst P (sym (later-second a b lt)) q
]

pub tumbler-later : (a b : List ℕ) → IsTumbler a → IsTumbler b → IsTumbler (later a b)
tumbler-later a b p q = later_is IsTumbler a b p q

-- ---- what touches a range begins before its end and does not end before it

pub touches-ends : (from to coordinate width : List ℕ) → touches from to coordinate width ≡ true → IsBefore coordinate to × IsUpTo from (sum coordinate width)
touches-ends from to coordinate [] h =
    let parts = and_parts (not (comes_before coordinate from)) (comes_before coordinate to) h in
    (before_if_true coordinate to parts.1, up_to_if_false coordinate from (not-true (comes_before coordinate from) parts.0))
touches-ends from to coordinate (x ∷ width) h =
    let start = later from coordinate in
    let end = sum coordinate (x ∷ width) in
    let parts = and_parts (comes_before start to) (comes_before start end) h in (
      upto_before coordinate start to (second_up_to_later from coordinate) (before_if_true start to parts.0),
      upto_if_before from end (upto_before from start end (first_up_to_later from coordinate) (before_if_true start end parts.1)),
    )

-- ---- what the code asks of the width

some-places : (x : ℕ) (width : List ℕ) → eqb (length (x ∷ width)) 0 ≡ false
some-places x width = grind (arith, nat_tests)

pub touches-none : (from to coordinate width : List ℕ) → eqb (length width) 0 ≡ true → touches from to coordinate width ≡ lies_between from to coordinate
touches-none from to coordinate [] e = refl
touches-none from to coordinate (x ∷ width) e = absurd (let other = some-places x width in cc)

pub touches-some : (from to coordinate width : List ℕ) → eqb (length width) 0 ≡ false → touches from to coordinate width ≡ comes_before (later from coordinate) to && comes_before (later from coordinate) (sum coordinate width)
touches-some from to coordinate [] e = absurd (let same : eqb 0 0 ≡ true = refl in cc)
touches-some from to coordinate (x ∷ width) e = refl

pub ruleset touching = (touches-none, touches-some)

-- ---- what it says that a row meets a span

touch_exactly : (span : Span) (coordinate width : List ℕ) → IsTumbler span.start → IsTumbler coordinate → IsTrue (touches span.start (end_of span) coordinate width)
    ↔ (((width ≢ []) × Share (record { start = coordinate; width = width }) span) ⊎ ((width ≡ []) × IsIn coordinate span))
touch_exactly span coordinate [] s t = (
  λ h. let parts = and_parts (not (comes_before coordinate span.start)) (comes_before coordinate (end_of span)) h in
      inr (refl, (up_to_if_false coordinate span.start (not-true (comes_before coordinate span.start) parts.0), before_if_true coordinate (end_of span) parts.1)),
  λ h. elim h [
    | inl some ↦ absurd (some.0 refl)
    | inr none ↦ and_from (not (comes_before coordinate span.start)) (comes_before coordinate (end_of span))
        (not_from_false (comes_before coordinate span.start) (false_if_up_to coordinate span.start none.1.0)) (true_if_before coordinate (end_of span) none.1.1)
  ],
)
touch_exactly span coordinate (x ∷ width) s t =
    let start = later span.start coordinate in
    let end = sum coordinate (x ∷ width) in (
      λ h. let parts = and_parts (comes_before start (end_of span)) (comes_before start end) h in
          inl (
            λ e. cc,
            record {
              places = start;
              are_places = are_places start (tumbler-later span.start coordinate s t);
              in_first = (second_up_to_later span.start coordinate, before_if_true start end parts.1);
              in_second = (first_up_to_later span.start coordinate, before_if_true start (end_of span) parts.0);
            },
          ),
      λ h. elim h [
        | inl some ↦ let both = some.1 in
            let le : IsUpTo start both.places = later_is (λ a. IsUpTo a both.places) span.start coordinate both.in_second.0 both.in_first.0 in
            and_from (comes_before start (end_of span)) (comes_before start end)
            (true_if_before start (end_of span) (upto_before start both.places (end_of span) le both.in_second.1)) (true_if_before start end (upto_before start both.places end le both.in_first.1))
        | inr none ↦ absurd (let e = none.0 in cc)
      ],
    )

pub meets_exactly : {L : Type 0} (w : Widths L) → MeetsExactly w
meets_exactly w = record {
  first = λ span row s well_formed. touch_exactly span row.first (w.first row) s well_formed.first_coordinate;
  second = λ span row s well_formed. touch_exactly span row.second (w.second row) s well_formed.second_coordinate;
}

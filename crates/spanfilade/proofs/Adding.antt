-- Spans that come in.
use Rattle.std.proofs.Common.{◌≡◌, ℕ, Bool, true, false, cond, ◌<◌, ◌^◌, List, [], ◌∷◌, ◌++◌, refl, arith, sym, subst, inl, inr}
use Rattle.std.specs.List.{All}
use Rattle.std.proofs.lemmas.List.Elements.{All-head, All-tail, All-nil, All-cons, All-weaker, All-append}
use Rattle.std.proofs.lemmas.Bool.{false≢true}
use Rattle.tumbler.specs.declared.span.Span.{Span}
use Rattle.tumbler.specs.Places.{IsTumbler, comes_before}
use Rattle.tumbler.specs.Span.{SpanFits}
use Rattle.tumbler.proofs.Order.{upto_upto, upto_or_before, upto_if_before, upto_itself}
use Rattle.tumbler.proofs.Before.{true_if_before, false_if_up_to, up_to_if_false}
use Rattle.tumbler.proofs.Tumblers.{sum-is_tumbler}
use Rattle.enfilade_core.specs.declared.tree.Row.{Row}
use Rattle.enfilade_core.specs.Axes.{InOrder, IsWellFormedRow}
use Rattle.enfilade_core.specs.Planes.{key_widths}
use Rattle.enfilade_core.specs.Edits.{put_before}
use Rattle.spanfilade.specs.Index.{row_of}
use Rattle.spanfilade.specs.Groups.{FitIn, IsPast, IsBehind, AreBehind}

-- ---- what comes in is well formed

no_places : IsTumbler []
no_places = record { few = omega arith; small = All-nil (λ p. p < 2 ^ 32); ends = λ _. refl }

pub well_formed_row : (span : Span) (key : List ℕ) → IsTumbler span.start → IsTumbler span.width → IsTumbler key → SpanFits span → IsWellFormedRow key_widths (row_of span key)
well_formed_row span key start width at fits = record {
  first_coordinate = start;
  second_coordinate = at;
  first_width = width;
  second_width = no_places;
  first_end = sum-is_tumbler span.start span.width start width fits;
  second_end = at;
  proper = ((λ t. absurd (false≢true t)), (λ t. absurd (false≢true t)));
}

-- ---- the order stays

behind_itself : {L : Type 0} (row : Row L) (rows : List (Row L)) → AreBehind row.first rows row
behind_itself row [] = All-nil (IsBehind row.first row)
behind_itself row (r ∷ rows) = All-cons (IsBehind row.first row) r rows (λ h. up_to_if_false r.first row.first h) (behind_itself row rows)

pub one_fits_in : {L : Type 0} (row : Row L) (rows : List (Row L)) → FitIn row.first (row ∷ []) rows
one_fits_in row rows = record {
  ordered = (All-nil (IsPast row.first), tt);
  past = All-cons (IsPast row.first) row [] (upto_itself row.first) (All-nil (IsPast row.first));
  up_to = All-cons (AreBehind row.first rows) row [] (behind_itself row rows) (All-nil (AreBehind row.first rows));
}

pub InOrder-put_all : {L : Type 0} (new rows : List (Row L)) → InOrder new → All (λ n. All (IsPast n.first) rows) new → InOrder rows → InOrder (new ++ rows)
InOrder-put_all [] rows o up h = h
InOrder-put_all {L} (n ∷ new) rows o up h =
    let P : Row L → Type 0 = λ m. All (IsPast m.first) rows in
    (All-append (IsPast n.first) new rows o.0 (All-head P n new up), InOrder-put_all new rows o.1 (All-tail P n new up) h)

-- where all rows are past the place, they are behind n
all_behind : {L : Type 0} (at : List ℕ) (n : Row L) (rows : List (Row L)) → All (IsPast at) rows → AreBehind at rows n → All (IsPast n.first) rows
all_behind at n [] past up = All-nil (IsPast n.first)
all_behind at n (r ∷ rows) past up =
    All-cons (IsPast n.first) r rows (All-head (IsBehind at n) r rows up (false_if_up_to r.first at (All-head (IsPast at) r rows past))) (all_behind at n rows (All-tail (IsPast at) r rows past) (All-tail (IsBehind at n) r rows up))

pub All-put : {L : Type 0} (P : Row L → Type 0) (at : List ℕ) (new rows : List (Row L)) → All P new → All P rows → All P (put_before at new rows)
All-put P at new [] n h = n
All-put P at new (row ∷ rows) n h = elim (upto_or_before at row.first) [
  | inl le ↦ rw (false_if_up_to row.first at le) (All-append P new (row ∷ rows) n h)
  | inr lt ↦ rw (true_if_before row.first at lt) (All-cons P row (put_before at new rows) (All-head P row rows h) (All-put P at new rows n (All-tail P row rows h)))
]

pub InOrder-put : {L : Type 0} (at : List ℕ) (new rows : List (Row L)) → FitIn at new rows → InOrder rows → InOrder (put_before at new rows)
InOrder-put at new [] f h = f.ordered
InOrder-put {L} at new (row ∷ rows) f h = elim (upto_or_before at row.first) [
  | inl le ↦ rw (false_if_up_to row.first at le) (
      let past : All (IsPast at) (row ∷ rows) = All-cons (IsPast at) row rows le (All-weaker (IsPast row.first) (IsPast at) (λ r k. upto_upto at row.first r.first le k) rows h.0) in
      let P : Row L → Type 0 = λ n. All (IsPast n.first) (row ∷ rows) in
      InOrder-put_all new (row ∷ rows) f.ordered (All-weaker (AreBehind at (row ∷ rows)) P (λ n up. all_behind at n (row ∷ rows) past up) new f.up_to) h)
  | inr lt ↦ rw (true_if_before row.first at lt) (
    All-put (IsPast row.first) at new rows (All-weaker (IsPast at) (IsPast row.first) (λ r k. upto_upto row.first at r.first (upto_if_before row.first at lt) k) new f.past) h.0,
    InOrder-put at new rows (record { ordered = f.ordered; past = f.past; up_to = All-weaker (AreBehind at (row ∷ rows)) (AreBehind at rows) (λ n up. All-tail (IsBehind at n) row rows up) new f.up_to }) h.1,
  )
]

-- one row comes in at its own place; the rows are those that a list holds
pub one_in_order : {L : Type 0} (row : Row L) (rows held : List (Row L)) → held ≡ row ∷ [] → InOrder rows → InOrder (put_before row.first held rows)
one_in_order row rows held is h = subst (λ (new : List (Row _)). InOrder (put_before row.first new rows)) (sym is) (InOrder-put row.first (row ∷ []) rows (one_fits_in row rows) h)

-- a tree that rows came into has rows
pub put_some : {L : Type 0} (at : List ℕ) (new : Row L) (more rows : List (Row L)) → put_before at (new ∷ more) rows ≡ [] → ⊥
put_some at new more [] e = let never : ⊥ = cc in never
put_some {L} at new more (row ∷ rows) e = by_test (comes_before row.first at) e
  where
    by_test : (b : Bool) → cond b (row ∷ put_before at (new ∷ more) rows) ((new ∷ more) ++ row ∷ rows) ≡ [] → ⊥
    by_test true e = let never : ⊥ = cc in never
    by_test false e = let never : ⊥ = cc in never

-- Rows that come in together, into one gap between those that are there.
use Rattle.std.proofs.Common.{◌≡◌, ℕ, Bool, true, false, cond, Option, Some, None, List, [], ◌∷◌, ◌++◌, refl, ◌∙◌, sym, subst, inl, inr, append-nil}
use Rattle.std.specs.List.{All}
use Rattle.std.specs.List.Sorted.{IsPermutation}
use Rattle.std.proofs.lemmas.List.Elements.{All-head, All-tail, All-nil, All-cons, All-weaker, All-append}
use Rattle.std.proofs.lemmas.List.Sorted.{IsPermutation-refl, IsPermutation-cons, IsPermutation-trans, IsPermutation-middle}
use Rattle.std.proofs.lemmas.Bool.{false≢true}
use Rattle.tumbler.specs.Places.{IsBefore, IsUpTo, comes_before}
use Rattle.tumbler.proofs.Order.{upto_upto, upto_before, upto_or_before}
use Rattle.tumbler.proofs.Before.{before_if_true, true_if_before, false_if_up_to}
use Rattle.enfilade_core.specs.declared.tree.Row.{Row}
use Rattle.enfilade_core.specs.Axes.{InOrder}
use Rattle.enfilade_core.specs.Edits.{put_before, last_before, or_else}
use Rattle.spanfilade.specs.Groups.{FitIn, IsPast, AreBehind, IsAcross}
use Rattle.spanfilade.proofs.Adding.{InOrder-put_all}

-- rows that come in beside others are those and these
pub put_moves : {L : Type 0} (at : List ℕ) (new rows : List (Row L)) → IsPermutation (new ++ rows) (put_before at new rows)
put_moves at new [] = subst (λ (xs : List (Row _)). IsPermutation xs new) (sym (append-nil new)) (IsPermutation-refl new)
put_moves at new (row ∷ rows) = elim (upto_or_before at row.first) [
  | inl le ↦ rw (false_if_up_to row.first at le) (IsPermutation-refl (new ++ row ∷ rows))
  | inr lt ↦ rw (true_if_before row.first at lt) (IsPermutation-trans (new ++ row ∷ rows) (row ∷ (new ++ rows)) (row ∷ put_before at new rows) (IsPermutation-middle new row rows)
      (IsPermutation-cons row (new ++ rows) (put_before at new rows) (put_moves at new rows)))
]

-- ---- a gap from one place on and before another

-- the last row before the other place is before the one, if there is such a row
abbrev pub IsFront : {L : Type 0} → List ℕ → Option (Row L) → Type 0
IsFront from (Some row) = comes_before row.first from ≡ true
IsFront from None = Unit {0}

found_in : {L : Type 0} (P : Row L → Type 0) (row found : Row L) (rest : Option (Row L)) (b : Bool) → (rest ≡ Some found → P found) → P row → cond b (or_else rest row) None ≡ Some found → P found
found_in P row found (Some other) true rec own e = rec e
found_in P row found None true rec own e = let same : row ≡ found = cc in subst P same own
found_in P row found rest false rec own e = let never : ⊥ = cc in absurd never

-- what holds of all rows holds of the one that was found
pub found_holds : {L : Type 0} (P : Row L → Type 0) (to : List ℕ) (rows : List (Row L)) (found : Row L) → last_before to rows ≡ Some found → All P rows → P found
found_holds P to [] found e h = let never : ⊥ = cc in absurd never
found_holds P to (row ∷ rows) found e h =
    found_in P row found (last_before to rows) (comes_before row.first to) (λ r. found_holds P to rows found r (All-tail P row rows h)) (All-head P row rows h) e

in_front : {L : Type 0} (from to : List ℕ) (row : Row L) (rows : List (Row L)) (rest : Option (Row L)) → last_before to rows ≡ rest → All (IsPast row.first) rows → IsFront from (or_else rest row) → (IsFront from rest → All (IsAcross from to) rows) → All (IsAcross from to) (row ∷ rows)
in_front from to row rows (Some found) e h front all =
    let before : IsBefore row.first from = upto_before row.first found.first from (found_holds (IsPast row.first) to rows found e h) (before_if_true found.first from front) in
    All-cons (IsAcross from to) row rows (λ not_before. absurd (false≢true (sym not_before ∙ true_if_before row.first from before))) (all front)
in_front from to row rows None e h front all = All-cons (IsAcross from to) row rows (λ not_before. absurd (false≢true (sym not_before ∙ front))) (all tt)

pub none_between : {L : Type 0} (from to : List ℕ) (rows : List (Row L)) → InOrder rows → IsFront from (last_before to rows) → All (IsAcross from to) rows
none_between from to [] h front = All-nil (IsAcross from to)
none_between {L} from to (row ∷ rows) h front = elim (upto_or_before to row.first) [
  | inl le ↦ All-cons (IsAcross from to) row rows (λ not_before. le) (All-weaker (IsPast row.first) (IsAcross from to) (λ r k not_before. upto_upto to row.first r.first le k) rows h.0)
  | inr lt ↦
      let now : IsFront from (or_else (last_before to rows) row) = subst (λ (b : Bool). IsFront from (cond b (or_else (last_before to rows) row) None)) (true_if_before row.first to lt) front in
      in_front from to row rows (last_before to rows) refl h.0 now (λ f. none_between from to rows h.1 f)
]

-- ---- one row more

pub fits_more : {L : Type 0} (at : List ℕ) (new rows : List (Row L)) (row : Row L) → FitIn at new rows → All (λ (n : Row L). IsUpTo n.first row.first) new → IsUpTo at row.first → All (IsAcross at row.first) rows → FitIn at (new ++ row ∷ []) rows
fits_more {L} at new rows row f up le across =
    let P : Row L → Type 0 = λ n. All (IsPast n.first) (row ∷ []) in
    record {
      ordered = InOrder-put_all new (row ∷ []) f.ordered (All-weaker (λ (n : Row L). IsUpTo n.first row.first) P (λ n k. All-cons (IsPast n.first) row [] k (All-nil (IsPast n.first))) new up) (All-nil (IsPast row.first), tt);
      past = All-append (IsPast at) new (row ∷ []) f.past (All-cons (IsPast at) row [] le (All-nil (IsPast at)));
      up_to = All-append (AreBehind at rows) new (row ∷ []) f.up_to (All-cons (AreBehind at rows) row [] across (All-nil (AreBehind at rows)));
    }

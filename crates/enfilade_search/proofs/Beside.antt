-- A row that stands beside a range, as it is seen from a base, is not sought.
use Rattle.std.proofs.Common.{◌≡◌, ◌⊎◌, ℕ, Bool, true, false, not, ◌||◌, List, [], ◌∷◌, ◌++◌, refl, ap, ◌∙◌, sym, subst, inl, inr}
use Rattle.std.specs.List.{filter}
use Rattle.std.proofs.lemmas.Bool.{false_from_ne_true}
use Rattle.tumbler.specs.Places.{EndsWell, IsBefore, comes_before, sum}
use Rattle.tumbler.proofs.Before.{before_if_true, up_to_if_false}
use Rattle.tumbler.proofs.Order.{upto_before, never_before_itself}
use Rattle.tumbler.proofs.Sums.{sums_associate}
use Rattle.enfilade_core.specs.declared.tree.Row.{Row}
use Rattle.enfilade_core.specs.Rows.{moved}
use Rattle.enfilade_core.specs.Axes.{Widths, WidthsStay, IsWellFormedRow}
use Rattle.enfilade_core.specs.Touched.{IsSeenFrom}
use Rattle.enfilade_core.proofs.Tells.{moves}
use Rattle.enfilade_search.specs.declared.sought.By.TheVariants.{Second}
use Rattle.enfilade_search.specs.declared.sought.Sought.{Sought}
use Rattle.enfilade_search.specs.Meeting.{touches}
use Rattle.enfilade_search.specs.Sought.{side_by, width_by, is_sought}
use Rattle.enfilade_search.proofs.Touching.{touches-ends}
use Rattle.enfilade_search.proofs.Placing.{left_out}

-- where a row is beside the range, it touches nothing of it
no_touch : (from to base seen_from seen_to coordinate width : List ℕ) → IsSeenFrom from base seen_from → IsSeenFrom to base seen_to → EndsWell coordinate → (comes_before coordinate seen_to ≡ false) ⊎ (comes_before (sum coordinate width) seen_from ≡ true)
    → touches from to (sum base coordinate) width ≡ false
no_touch from to base seen_from seen_to coordinate width begins ends well beside = false_from_ne_true (touches from to (sum base coordinate) width) (λ is.
    let both = touches-ends from to (sum base coordinate) width is in
    elim beside [
      | inl past ↦ never_before_itself to (upto_before to (sum base coordinate) to (up_to_if_false (sum base coordinate) to (ends.past coordinate well past)) both.0)
      | inr before ↦
          let lt : IsBefore (sum (sum base coordinate) width) from = subst (λ (x : List ℕ). IsBefore x from) (sym (sums_associate base coordinate width)) (before_if_true (sum base (sum coordinate width)) from (begins.before (sum coordinate width) before)) in
          never_before_itself from (upto_before from (sum (sum base coordinate) width) from both.1 lt)
    ])

-- on which side it is beside
pub beside_so : (told a b : Bool) → told ≡ (not a || b) → told ≡ true → (a ≡ false) ⊎ (b ≡ true)
beside_so told true b is so = inr (sym is ∙ so)
beside_so told false b is so = inl refl

pub beside-left : {L : Type 0} (w : Widths L) → WidthsStay w → (sought : Sought) (a b seen_from seen_to : List ℕ) (row : Row L) (held : List (Row L)) → sought.by ≡ Second → IsSeenFrom sought.from b seen_from → IsSeenFrom sought.to b seen_to → IsWellFormedRow w row
    → (comes_before row.second seen_to ≡ false) ⊎ (comes_before (sum row.second (w.second row)) seen_from ≡ true) → held ≡ held ++ filter (is_sought w sought) (moved a b row ∷ [])
beside-left w stay sought a b seen_from seen_to row held by begins ends own beside =
    let there = moved a b row in
    let not_sought : is_sought w sought there ≡ false =
    (λ k. touches sought.from sought.to (side_by (by k) there.first there.second) (width_by w (by k) there))
    ∙ ap (touches sought.from sought.to (sum b row.second)) ((moves w stay row own).second_stays a b)
    ∙ no_touch sought.from sought.to b seen_from seen_to row.second (w.second row) begins ends own.second_coordinate.ends beside in
    left_out (is_sought w sought) held there false (sym not_sought) refl

-- What a search among rows in ascending order has told.
use Rattle.std.proofs.Common.{◌≡◌, ◌≢◌, ℕ, ◌<◌, true, false, List, length, map, get_or, Less, ap, sym, subst, ◌∙◌, arith, inl, inr, nat_cmp, is_lt, true≢false}
use Rattle.std.proofs.Math.ListN as list
use Rattle.std.specs.List.Sorted.{IsStrictlySortedBy, IsPartitionPoint}
use Rattle.std.specs.Cmp.Lexicographic.{slice_cmp}
use Rattle.std.proofs.lemmas.List.{length-map}
use Rattle.std.proofs.lemmas.Map.Keys.{Less-from_sorted}
use Rattle.std.proofs.lemmas.Bool.{cases_lt}
use Rattle.tumbler.specs.Places.{comes_before}
use Rattle.tumbler.proofs.Before.{false_if_up_to}
use Rattle.tumbler.proofs.Order.{upto_itself}
use Rattle.content_checks.proofs.DocumentBytes.{never_before_itself}

module _ {X : Type 0} (address : X → List ℕ) (rows : List X) (ascends : IsStrictlySortedBy (slice_cmp nat_cmp) (map address rows)) where
  -- a row comes before those behind it
  ordered : (i j : ℕ) (d : X) → i < j → j < length rows → slice_cmp nat_cmp (address (get_or rows i d)) (address (get_or rows j d)) ≡ Less
  ordered i j d below within =
      let long = length-map rows address in
      let less = Less-from_sorted (slice_cmp nat_cmp) (map address rows) i j (address d) ascends below (omega (arith, long, within)) in
      rw (← list.get_or-map address rows i d, ← list.get_or-map address rows j d) less

  -- two rows of one address stand at one place
  pub one_place : (i j : ℕ) (d : X) (it : List ℕ) → i < length rows → j < length rows → address (get_or rows i d) ≡ it → address (get_or rows j d) ≡ it → i ≡ j
  one_place i j d it here there a b = elim (cases_lt i j) [
    | inl below ↦ absurd (never_before_itself (address (get_or rows i d)) (address (get_or rows j d)) (ordered i j d below there) (b ∙ sym a))
    | inr le ↦ elim (cases_lt j i) [
      | inl above ↦ absurd (never_before_itself (address (get_or rows j d)) (address (get_or rows i d)) (ordered j i d above here) (a ∙ sym b))
      | inr ge ↦ omega (arith, le, ge)
    ]
  ]

  -- where the search ends at another row or at the end, no row has the address
  module _ (it : List ℕ) (at : ℕ) (point : IsPartitionPoint (λ row. comes_before (address row) it ≡ true) (λ row. comes_before (address row) it ≡ false) rows at) (other : (d : X) → at < length rows → address (get_or rows at d) ≢ it) where
    before : (k : ℕ) (d : X) → k < length rows → k < at → address (get_or rows k d) ≢ it
    before k d within below same =
        let here = point.0 k d (omega arith) below in
        let never = false_if_up_to it it (upto_itself it) in
        true≢false (sym here ∙ (ap (λ (a : List ℕ). comes_before a it) same ∙ never))

    behind : (k : ℕ) (d : X) → k < length rows → at < k → address (get_or rows k d) ≢ it
    behind k d within above same =
        let less = ordered at k d above within in
        let at_end : slice_cmp nat_cmp (address (get_or rows at d)) it ≡ Less = subst (λ (a : List ℕ). slice_cmp nat_cmp (address (get_or rows at d)) a ≡ Less) same less in
        let never = point.1 at d (omega arith) (omega (arith, above, within)) in
        true≢false (sym (ap is_lt at_end) ∙ never)

    pub absent : (k : ℕ) (d : X) → k < length rows → address (get_or rows k d) ≢ it
    absent k d within same = elim (cases_lt k at) [
      | inl below ↦ before k d within below same
      | inr le ↦ elim (cases_lt at k) [
        | inl above ↦ behind k d within above same
        | inr ge ↦ let here : k ≡ at = omega (arith, le, ge) in other d (omega (arith, here, within)) (ap (λ (j : ℕ). address (get_or rows j d)) (sym here) ∙ same)
      ]
    ]

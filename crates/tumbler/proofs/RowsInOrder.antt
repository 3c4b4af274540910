-- The place of an address among rows in ascending order of theirs.
use Rattle.std.proofs.Common.{◌≡◌, ℕ, zero, suc, ◌<◌, ◌≤◌, Bool, true, false, List, [], ◌∷◌, length, map, get_or, Ordering, Less, Equal, Greater, refl, sym, ap, subst, nat_cmp, is_lt, true≢false, arith, inl, inr, ◌⊎◌}
use Rattle.std.proofs.lemmas.List.Sums.{prefix_len_is}
use Rattle.std.proofs.lemmas.Map.Keys.{Less-from_sorted}
use Rattle.std.proofs.lemmas.Bool.{cases_lt}
use Rattle.std.specs.List.{prefix_len}
use Rattle.std.specs.List.Sorted.{IsStrictlySortedBy, IsPartitionedBy, IsPartitionPoint}
use Rattle.std.specs.Cmp.Lexicographic.{slice_cmp, nat_list_cmp_total}
use Rattle.tumbler.specs.Places.{comes_before}

pub place_is : {X : Type 0} (p : X → Bool) (xs : List X) (i : ℕ) → i ≤ length xs → IsPartitionPoint (λ y. p y ≡ true) (λ y. p y ≡ false) xs i → i ≡ prefix_len p xs
place_is p [] i within point = omega (arith, within)
place_is p (x ∷ xs) i within point = sym (prefix_len_is p (x ∷ xs) i x within (λ k below. point.0 k x (omega arith) below) (λ below. point.1 i x (omega arith) below))

pub same_item : {X : Type 0} (xs : List X) (k : ℕ) (d e : X) → k < length xs → get_or xs k d ≡ get_or xs k e
same_item [] k d e within = absurd (not_below k within)
  where
    not_below : (k : ℕ) → k < 0 → ⊥
    not_below k h = omega (arith, h)
same_item (x ∷ xs) zero d e within = refl
same_item (x ∷ xs) (suc k) d e within = same_item xs k d e (omega (arith, within))

less_is : (r : Ordering) → is_lt r ≡ true → r ≡ Less
less_is Less e = refl
less_is Equal e = absurd (true≢false (sym e))
less_is Greater e = absurd (true≢false (sym e))

module _ {X : Type 0} (address : X → List ℕ) where
  at_place : (rows : List X) (k : ℕ) (d : X) → get_or (map address rows) k (address d) ≡ address (get_or rows k d)
  at_place [] k d = refl
  at_place (row ∷ rows) zero d = refl
  at_place (row ∷ rows) (suc k) d = at_place rows k d

  long : (rows : List X) → length (map address rows) ≡ length rows
  long [] = refl
  long (row ∷ rows) = ap suc (long rows)

  module _ (it : List ℕ) (rows : List X) (ascends : IsStrictlySortedBy (slice_cmp nat_cmp) (map address rows)) where
    before_step : (i j : ℕ) (d : X) → j < length rows → comes_before (address (get_or rows j d)) it ≡ true → (i < j) ⊎ (j ≤ i) → i ≤ j → comes_before (address (get_or rows i d)) it ≡ true
    before_step i j d within passes (inl below) upto =
        let ordered = Less-from_sorted (slice_cmp nat_cmp) (map address rows) i j (address d) ascends below (rw (long rows) within) in
        let apart : slice_cmp nat_cmp (address (get_or rows i d)) (address (get_or rows j d)) ≡ Less = rw (← at_place rows i d, ← at_place rows j d) ordered in
        ap is_lt (nat_list_cmp_total.trans (address (get_or rows i d)) (address (get_or rows j d)) it apart (less_is _ passes))
    before_step i j d within passes (inr above) upto =
        let same : j ≡ i = omega (arith, above, upto) in
        subst (λ k. comes_before (address (get_or rows k d)) it ≡ true) same passes

    pub parted : IsPartitionedBy (λ row. comes_before (address row) it) rows
    parted i j d upto within passes = before_step i j d within passes (cases_lt i j) upto

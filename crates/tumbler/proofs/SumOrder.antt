-- Sums and differences beside the order, and which of them are tumblers.
use Rattle.std.proofs.Common.{◌≡◌, ◌≢◌, ℕ, zero, suc, ◌+◌, ◌-◌, ◌<◌, ◌≤◌, List, [], ◌∷◌, length, drop, arith, refl, ap, sym, ◌∙◌, subst, inl, inr}
use Rattle.std.proofs.lemmas.List.Elements.{All-cons, All-nil, All-head, All-tail}
use Rattle.tumbler.specs.Places.{place, place_bound, EndsWell, IsTumbler, IsBefore, IsUpTo, sum, Fits, difference, after_zero}
use Rattle.tumbler.specs.Laws.{FitsExactly, DifferenceOfSum}
use Rattle.tumbler.proofs.Order.{upto_cases, before_cases, upto_or_before, upto_by_cases, upto_if_before, upto_itself, before_upto, never_before_itself, same_if_tied}
use Rattle.tumbler.proofs.Tumblers.{AreSmall, difference-same, difference-less, length-sum, EndsWell-tail, EndsWell-last, EndsWell-first, EndsWell-after_zero, sum-is_tumbler}
use Rattle.tumbler.proofs.Sums.{fits-nonzero, sums_keep_order}
use Rattle.tumbler.proofs.Differences.{sum-difference}

-- ---- order

-- further displacements lead further, or to the same place
pub sums_up_to : (a d e : List ℕ) → EndsWell e → IsUpTo d e → IsUpTo (sum a d) (sum a e)
sums_up_to a d e ends le = elim (upto_by_cases d e le) [
  | inl less ↦ upto_if_before (sum a d) (sum a e) (sums_keep_order a d e ends less)
  | inr tied ↦ subst (λ (x : List ℕ). IsUpTo (sum a d) (sum a x)) (same_if_tied d e tied) (upto_itself (sum a d))
]

pub up_to_if_sums : (a d e : List ℕ) → EndsWell d → IsUpTo (sum a d) (sum a e) → IsUpTo d e
up_to_if_sums a d e ends le = elim (upto_or_before d e) [
  | inl upto ↦ upto
  | inr less ↦ absurd (never_before_itself (sum a e) (before_upto (sum a e) (sum a d) (sum a e) (sums_keep_order a e d ends less) le))
]

pub before_if_sums : (a d e : List ℕ) → EndsWell d → IsBefore (sum a d) (sum a e) → IsBefore d e
before_if_sums a d e ends less = elim (upto_by_cases d e (up_to_if_sums a d e ends (upto_if_before (sum a d) (sum a e) less))) [
  | inl before ↦ before
  | inr tied ↦ absurd (never_before_itself (sum a e) (subst (λ (x : List ℕ). IsBefore (sum a x) (sum a e)) (same_if_tied d e tied) less))
]

pub EndsWell-difference : (b a : List ℕ) → EndsWell b → IsUpTo a b → EndsWell (difference b a)
EndsWell-difference b [] e u = e
EndsWell-difference [] (x ∷ a) e u = e
EndsWell-difference (y ∷ b) (x ∷ a) e u = elim (upto_cases x y a b u) [
  | inl less ↦ rw (difference-less y x b a less) (EndsWell-first y (y - x) b (omega arith) e)
  | inr same ↦ rw (same.0, difference-same y b a) (EndsWell-after_zero (difference b a) (EndsWell-difference b a (EndsWell-tail y b e) same.1))
]

-- from one place, what leads further is greater
pub differences_up_to : (a b c : List ℕ) → EndsWell b → IsUpTo a b → IsUpTo a c → IsUpTo b c → IsUpTo (difference b a) (difference c a)
differences_up_to a b c ends ab ac bc =
    up_to_if_sums a (difference b a) (difference c a) (EndsWell-difference b a ends ab) (rw (sum-difference a b ab, sum-difference a c ac) bc)

pub differences_before : (a b c : List ℕ) → EndsWell b → IsUpTo a b → IsUpTo a c → IsBefore b c → IsBefore (difference b a) (difference c a)
differences_before a b c ends ab ac bc =
    before_if_sums a (difference b a) (difference c a) (EndsWell-difference b a ends ab) (rw (sum-difference a b ab, sum-difference a c ac) bc)

-- ---- lengths

pub length-sum_filled : (a d : List ℕ) → EndsWell d → d ≢ [] → length (sum a d) ≡ length d
length-sum_filled a [] e n = absurd (n refl)
length-sum_filled a (x ∷ d) e n = length-sum a x d e

pub sum-filled : (a d : List ℕ) → EndsWell d → d ≢ [] → sum a d ≢ []
sum-filled a [] e n q = n refl
sum-filled a (zero ∷ d) e n q = cc
sum-filled a (suc x ∷ d) e n q = cc

-- from a place before it, what leads to b is not zero, and as long as b
pub difference-filled : (b a : List ℕ) → IsBefore a b → difference b a ≢ []
difference-filled b a less q = never_before_itself a (subst (λ (x : List ℕ). IsBefore a x) same less)
  where
    same : b ≡ a
    same = sym (sum-difference a b (upto_if_before a b less)) ∙ ap (sum a) q

after_zero-filled : (d : List ℕ) → d ≢ [] → after_zero d ≡ 0 ∷ d
after_zero-filled [] n = absurd (n refl)
after_zero-filled (x ∷ d) n = refl

pub length-difference_before : (b a : List ℕ) → IsBefore a b → length (difference b a) ≡ length b
length-difference_before b [] less = refl
length-difference_before [] (x ∷ a) less = cc
length-difference_before (y ∷ b) (x ∷ a) less = elim (before_cases x y a b less) [
  | inl lower ↦ rw (difference-less y x b a lower) refl
  | inr same ↦ rw (same.0, difference-same y b a, after_zero-filled (difference b a) (difference-filled b a same.1)) (ap suc (length-difference_before b a same.1))
]

-- ---- what leads on from a difference

after_zero-sum_zero : (d e : List ℕ) → e ≢ [] → EndsWell e → after_zero (sum d e) ≡ sum (after_zero d) (0 ∷ e)
after_zero-sum_zero [] e n ends = after_zero-filled (sum [] e) (sum-filled [] e ends n)
after_zero-sum_zero (x ∷ d) e n ends = after_zero-filled (sum (x ∷ d) e) (sum-filled (x ∷ d) e ends n)

pub difference-sum : (a b e : List ℕ) → IsUpTo a b → EndsWell e → difference (sum b e) a ≡ sum (difference b a) e
difference-sum a b [] u ends = refl
difference-sum [] b (z ∷ e) u ends = refl
difference-sum (x ∷ a) [] (z ∷ e) u ends = absurd (u refl)
difference-sum (x ∷ a) (y ∷ b) (suc z ∷ e) u ends = elim (upto_cases x y a b u) [
  | inl less ↦ rw (difference-less y x b a less, difference-less (y + suc z) x e a (omega arith)) (let n : (y + suc z) - x ≡ (y - x) + suc z = omega arith in rw n)
  | inr same ↦ rw (same.0, difference-same y b a, difference-less (y + suc z) y e a (omega arith)) (first (difference b a) z ((y + suc z) - y) e (omega arith))
]
  where
    first : (d : List ℕ) (z n : ℕ) (e : List ℕ) → n ≡ suc z → n ∷ e ≡ sum (after_zero d) (suc z ∷ e)
    first [] z n e q = rw q (ap (λ (m : ℕ). m ∷ e) (omega arith))
    first (x ∷ d) z n e q = rw q (ap (λ (m : ℕ). m ∷ e) (omega arith))
difference-sum (x ∷ a) (y ∷ b) (zero ∷ []) u ends = absurd (EndsWell-last 0 ends refl)
difference-sum (x ∷ a) (y ∷ b) (zero ∷ z ∷ e) u ends = elim (upto_cases x y a b u) [
  | inl less ↦ rw (difference-less y x b a less, difference-less y x (sum b (z ∷ e)) a less) refl
  | inr same ↦ rw (same.0, difference-same y b a, difference-same y (sum b (z ∷ e)) a, difference-sum a b (z ∷ e) same.1 (EndsWell-tail 0 (z ∷ e) ends))
      (after_zero-sum_zero (difference b a) (z ∷ e) (λ q. cc) (EndsWell-tail 0 (z ∷ e) ends))
]

pub difference_of_sum : DifferenceOfSum
difference_of_sum = difference-sum

-- ---- tumblers

pub fits_if_small : (a d : List ℕ) → AreSmall (sum a d) → Fits a d
fits_if_small a [] h = refl
fits_if_small a (zero ∷ d) h = fits_if_small (drop 1 a) d (All-tail (λ p. p < place_bound) (place a 0) (sum (drop 1 a) d) h)
fits_if_small a (suc x ∷ d) h = (fits-nonzero a (suc x) d (λ q. cc)).1 (All-head (λ p. p < place_bound) (place a 0 + suc x) d h)

pub fits_if_tumbler : (a d : List ℕ) → IsTumbler (sum a d) → Fits a d
fits_if_tumbler a d t = fits_if_small a d t.small

small_if_sum : (a d : List ℕ) → AreSmall (sum a d) → AreSmall d
small_if_sum a [] h = All-nil (λ p. p < place_bound)
small_if_sum a (zero ∷ d) h = All-cons (λ p. p < place_bound) 0 d (omega arith) (small_if_sum (drop 1 a) d (All-tail (λ p. p < place_bound) (place a 0) (sum (drop 1 a) d) h))
small_if_sum a (suc x ∷ d) h =
    let first : place a 0 + suc x < place_bound = All-head (λ p. p < place_bound) (place a 0 + suc x) d h in
    All-cons (λ p. p < place_bound) (suc x) d (omega arith) (All-tail (λ p. p < place_bound) (place a 0 + suc x) d h)

few_if_sum : (a d : List ℕ) (n : ℕ) → EndsWell d → length (sum a d) ≤ n → length d ≤ n
few_if_sum a [] n e h = omega arith
few_if_sum a (x ∷ d) n e h = rw (length-sum a x d e) at h

-- a displacement that leads to a tumbler is one
pub tumbler_if_sum : (a d : List ℕ) → EndsWell d → IsTumbler (sum a d) → IsTumbler d
tumbler_if_sum a d e t = record { few = few_if_sum a d 24 e t.few; small = small_if_sum a d t.small; ends = e }

pub fits_exactly : FitsExactly
fits_exactly a d h g = (λ f. sum-is_tumbler a d h g f, λ t. fits_if_tumbler a d t)

-- the order of sums and differences
pub ruleset sum_order = (sums_up_to, up_to_if_sums, before_if_sums, differences_up_to, differences_before, difference-sum)

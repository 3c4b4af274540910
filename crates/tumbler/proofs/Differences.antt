-- Differences lead back.
use Rattle.std.proofs.Common.{◌≡◌, ℕ, zero, suc, ◌+◌, ◌-◌, ◌^◌, ◌<◌, List, [], ◌∷◌, arith, refl, inl, inr}
use Rattle.std.proofs.lemmas.Bool.Decides.{nat_tests}
use Rattle.std.proofs.lemmas.List.Elements.{All-head, All-tail}
use Rattle.tumbler.specs.Places.{IsUpTo, sum, Fits, after_zero, difference}
use Rattle.tumbler.specs.Laws.{DifferenceAddsBack, DifferenceUndoesSum}
use Rattle.tumbler.proofs.Order.{upto_cases}
use Rattle.tumbler.proofs.Tumblers.{AreSmall, difference-same, difference-less, difference-is_tumbler, EndsWell-tail, EndsWell-last}
use Rattle.tumbler.proofs.Sums.{sum-nonzero, fits-nonzero, sum-from_zero}

sum-after_zero : (x : ℕ) (a d : List ℕ) → sum (x ∷ a) (after_zero d) ≡ x ∷ sum a d
sum-after_zero x a [] = refl
sum-after_zero x a (y ∷ d) = refl

Fits-after_zero : (x : ℕ) (a d : List ℕ) → Fits a d → Fits (x ∷ a) (after_zero d)
Fits-after_zero x a [] h = h
Fits-after_zero x a (y ∷ d) h = h

pub sum-difference : (a b : List ℕ) → IsUpTo a b → sum a (difference b a) ≡ b
sum-difference [] b u = sum-from_zero b
sum-difference (x ∷ a) [] u = absurd (u refl)
sum-difference (x ∷ a) (y ∷ b) u = elim (upto_cases x y a b u) [
  | inl less ↦ rw (difference-less y x b a less, sum-nonzero (x ∷ a) (y - x) b (omega arith)) (let e : x + (y - x) ≡ y = omega arith in rw e)
  | inr same ↦ rw (same.0, difference-same y b a, sum-after_zero y a (difference b a), sum-difference a b same.1)
]

-- places that are small fit where zero is what they are added to
fits-small : (d : List ℕ) → AreSmall d → Fits [] d
fits-small [] h = refl
fits-small (zero ∷ d) h = fits-small d (All-tail (λ p. p < 2 ^ 32) 0 d h)
fits-small (suc x ∷ d) h = let small = All-head (λ p. p < 2 ^ 32) (suc x) d h in grind (arith, nat_tests)

pub fits-difference : (a b : List ℕ) → AreSmall b → IsUpTo a b → Fits a (difference b a)
fits-difference [] b h u = fits-small b h
fits-difference (x ∷ a) [] h u = absurd (u refl)
fits-difference (x ∷ a) (y ∷ b) h u = elim (upto_cases x y a b u) [
  | inl less ↦ let small = All-head (λ p. p < 2 ^ 32) y b h in
      rw (difference-less y x b a less) ((fits-nonzero (x ∷ a) (y - x) b (omega arith)).1 (omega arith))
  | inr same ↦ rw (same.0, difference-same y b a) (Fits-after_zero y a (difference b a) (fits-difference a b (All-tail (λ p. p < 2 ^ 32) y b h) same.1))
]

pub difference_adds_back : DifferenceAddsBack
difference_adds_back a b h g u = record {
  is_tumbler = difference-is_tumbler b a g h u;
  fits_back = fits-difference a b g.small u;
  adds_back = sum-difference a b u;
}

pub difference-itself : (a : List ℕ) → difference a a ≡ []
difference-itself [] = refl
difference-itself (x ∷ a) = rw (difference-same x a a, difference-itself a)

pub difference_undoes_sum : DifferenceUndoesSum
difference_undoes_sum a [] e = difference-itself a
difference_undoes_sum [] (x ∷ d) e = sum-from_zero (x ∷ d)
difference_undoes_sum (y ∷ a) (suc x ∷ d) e = rw (difference-less (y + suc x) y d a (omega arith)) (let n : (y + suc x) - y ≡ suc x = omega arith in rw n)
difference_undoes_sum (y ∷ a) (zero ∷ []) e = absurd (EndsWell-last 0 e refl)
difference_undoes_sum (y ∷ a) (zero ∷ z ∷ d) e = rw (difference-same y (sum a (z ∷ d)) a, difference_undoes_sum a (z ∷ d) (EndsWell-tail 0 (z ∷ d) e))

-- the laws of differences
pub ruleset difference_laws = (sum-difference, fits-difference, difference_adds_back, difference_undoes_sum, difference-itself)

-- Sums associate, and keep the order of what is added.
use Rattle.std.proofs.Common.{◌≡◌, ◌≢◌, ℕ, zero, suc, ◌+◌, ◌^◌, ◌<◌, ◌↔◌, List, [], ◌∷◌, drop, arith, refl, ap, inl, inr}
use Rattle.std.proofs.lemmas.Bool.Decides.{nat_tests}
use Rattle.tumbler.specs.Places.{place, EndsWell, IsBefore, IsUpTo, sum, Fits}
use Rattle.tumbler.specs.Laws.{SumsAssociate, SumsFitTogether, SumsKeepOrder, SumsCancel, SumComesAfter}
use Rattle.tumbler.proofs.Order.{before_by_first, before_by_rest, before_cases, upto_if_before, upto_itself, upto_or_before, upto_by_cases, never_before_itself, same_if_tied}
use Rattle.tumbler.proofs.Tumblers.{EndsWell-tail, EndsWell-last}

pub sum-nonzero : (a : List ℕ) (x : ℕ) (d : List ℕ) → x ≢ 0 → sum a (x ∷ d) ≡ (place a 0 + x) ∷ d
sum-nonzero a zero d h = absurd (h refl)
sum-nonzero a (suc x) d h = refl

pub fits-nonzero : (a : List ℕ) (x : ℕ) (d : List ℕ) → x ≢ 0 → (Fits a (x ∷ d) ↔ (place a 0 + x < 2 ^ 32))
fits-nonzero a zero d h = absurd (h refl)
fits-nonzero a (suc x) d h = (λ f. grind (arith, nat_tests), λ l. grind (arith, nat_tests))

pub sum-from_zero : (d : List ℕ) → sum [] d ≡ d
sum-from_zero [] = refl
sum-from_zero (zero ∷ d) = ap (λ (e : List ℕ). 0 ∷ e) (sum-from_zero d)
sum-from_zero (suc x ∷ d) = grind arith

pub place-sum_first : (a d : List ℕ) → place (sum a d) 0 ≡ place a 0 + place d 0
place-sum_first a [] = grind arith
place-sum_first a (zero ∷ d) = grind arith
place-sum_first a (suc x ∷ d) = refl

pub sums_associate : SumsAssociate
sums_associate a d [] = refl
sums_associate a d (suc x ∷ e) = rw (place-sum_first a d, sum-nonzero a (place d 0 + suc x) e (omega arith)) (grind arith)
sums_associate a [] (zero ∷ e) = rw (sum-from_zero e)
sums_associate a (zero ∷ d) (zero ∷ e) = ap (λ (s : List ℕ). place a 0 ∷ s) (sums_associate (drop 1 a) d e)
sums_associate a (suc x ∷ d) (zero ∷ e) = refl

-- what fits after a fits from the start
pub fits-from_zero : (a d : List ℕ) → Fits a d → Fits [] d
fits-from_zero a [] h = h
fits-from_zero a (zero ∷ d) h = fits-from_zero (drop 1 a) d h
fits-from_zero a (suc x ∷ d) h = grind (arith, nat_tests)

pub sums_fit_together : SumsFitTogether
sums_fit_together a d [] h = (λ _. (refl, h), λ _. refl)
sums_fit_together a d (suc x ∷ e) h =
    let both = fits-nonzero a (place d 0 + suc x) e (omega arith) in
    let first = place-sum_first a d in (
      λ f. let small : place (sum a d) 0 + suc x < 2 ^ 32 = grind (arith, nat_tests) in (grind (arith, nat_tests), both.1 (omega arith)),
      λ f. let small : place a 0 + (place d 0 + suc x) < 2 ^ 32 = both.0 f.1 in grind (arith, nat_tests),
    )
sums_fit_together a [] (zero ∷ e) h = rw (sum-from_zero e) (λ f. (fits-from_zero (drop 1 a) e f, f), λ f. f.1)
sums_fit_together a (zero ∷ d) (zero ∷ e) h = sums_fit_together (drop 1 a) d e h
sums_fit_together a (suc x ∷ d) (zero ∷ e) h = (λ f. (f, h), λ f. f.0)

sum-comes_after : (a : List ℕ) (y : ℕ) (d : List ℕ) → EndsWell (y ∷ d) → IsBefore a (sum a (y ∷ d))
sum-comes_after [] (suc y) d e = refl
sum-comes_after (x ∷ a) (suc y) d e = before_by_first x (x + suc y) a d (omega arith)
sum-comes_after a zero [] e = absurd (EndsWell-last 0 e refl)
sum-comes_after [] zero (z ∷ d) e = refl
sum-comes_after (x ∷ a) zero (z ∷ d) e = before_by_rest x a (sum a (z ∷ d)) (sum-comes_after a z d (EndsWell-tail 0 (z ∷ d) e))

pub sum_comes_after : SumComesAfter
sum_comes_after a [] e h = absurd (h refl)
sum_comes_after a (y ∷ d) e h = sum-comes_after a y d e

pub sums_keep_order : SumsKeepOrder
sums_keep_order a [] [] g h = cc
sums_keep_order a (x ∷ d) [] g h = cc
sums_keep_order a [] (y ∷ e) g h = sum-comes_after a y e g
sums_keep_order a (zero ∷ d) (zero ∷ e) g h = before_by_rest (place a 0) (sum (drop 1 a) d) (sum (drop 1 a) e) (sums_keep_order (drop 1 a) d e (EndsWell-tail 0 e g) h)
sums_keep_order a (zero ∷ d) (suc y ∷ e) g h = before_by_first (place a 0) (place a 0 + suc y) (sum (drop 1 a) d) e (omega arith)
sums_keep_order a (suc x ∷ d) (zero ∷ e) g h = elim (before_cases (suc x) 0 d e h) [
  | inl less ↦ absurd (omega arith)
  | inr same ↦ absurd (let no : suc x ≡ 0 = same.0 in omega arith)
]
sums_keep_order a (suc x ∷ d) (suc y ∷ e) g h = elim (before_cases (suc x) (suc y) d e h) [
  | inl less ↦ before_by_first (place a 0 + suc x) (place a 0 + suc y) d e (omega arith)
  | inr same ↦ rw same.0 (before_by_rest (place a 0 + suc y) d e same.1)
]

-- a sum is no less than what it adds to
pub sum-upto : (a d : List ℕ) → EndsWell d → IsUpTo a (sum a d)
sum-upto a [] e = upto_itself a
sum-upto a (y ∷ d) e = upto_if_before a (sum a (y ∷ d)) (sum-comes_after a y d e)

pub sums_cancel : SumsCancel
sums_cancel a d e g h q = elim (upto_or_before d e) [
  | inr more ↦ absurd (never_before_itself (sum a d) (rw (← q) at (sums_keep_order a e d g more)))
  | inl upto ↦ elim (upto_by_cases d e upto) [
    | inl less ↦ absurd (never_before_itself (sum a d) (rw (← q) at (sums_keep_order a d e h less)))
    | inr tied ↦ same_if_tied d e tied
  ]
]

-- the laws of sums
pub ruleset sum_laws = (sums_associate, sums_fit_together, sums_keep_order, sums_cancel, sum_comes_after, sum-upto, sum-from_zero)

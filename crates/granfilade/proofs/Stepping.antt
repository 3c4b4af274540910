-- Addresses that come after one another.
use Rattle.std.proofs.Common.{◌≡◌, ◌≢◌, ℕ, zero, suc, ◌+◌, ◌<◌, ◌≤◌, List, [], ◌∷◌, length, refl, arith, subst, inl, inr}
use Rattle.std.proofs.lemmas.Bool.{lt-ltb, ltb-true, cases_lt}
use Rattle.tumbler.specs.Places.{place_bound, IsTumbler, IsBefore, IsUpTo, Fits, width_at}
use Rattle.tumbler.proofs.Sums.{sums_keep_order}
use Rattle.tumbler.proofs.Tumblers.{sum-is_tumbler}
use Rattle.tumbler.proofs.Order.{before_by_first, before_by_rest, upto_if_before, upto_itself}
use Rattle.tumbler.proofs.Widths.{EndsWell-width_at, width_at-is_tumbler}
use Rattle.granfilade.specs.Content.{so_far_on}
use Rattle.granfilade.specs.Steps.{last_of}

-- ---- whether it fits

pub step_fits : (a : List ℕ) (k : ℕ) → last_of a + k < place_bound → Fits a (width_at (length a) k)
step_fits [] k h = refl
step_fits (x ∷ xs) zero h = refl
step_fits (x ∷ []) (suc k) h = lt-ltb (x + suc k) place_bound h
step_fits (x ∷ y ∷ xs) (suc k) h = step_fits (y ∷ xs) (suc k) h

pub step_is_tumbler : (a : List ℕ) (k : ℕ) → IsTumbler a → last_of a + k < place_bound → IsTumbler (so_far_on a k)
step_is_tumbler a k t h = sum-is_tumbler a (width_at (length a) k) t (width_at-is_tumbler (length a) k t.few (omega (arith, h))) (step_fits a k h)

pub ruleset stepping = (step_fits)

-- ---- in which order

widths-before : (long j k : ℕ) → j < k → IsBefore (width_at (suc long) j) (width_at (suc long) k)
widths-before long j zero h = absurd (omega arith)
widths-before zero zero (suc k) h = refl
widths-before (suc long) zero (suc k) h = refl
widths-before zero (suc j) (suc k) h = before_by_first (suc j) (suc k) [] [] h
widths-before (suc long) (suc j) (suc k) h = before_by_rest 0 (width_at (suc long) (suc j)) (width_at (suc long) (suc k)) (widths-before long (suc j) (suc k) h)

pub steps-before : (a : List ℕ) (j k : ℕ) → a ≢ [] → j < k → IsBefore (so_far_on a j) (so_far_on a k)
steps-before [] j k some h = absurd (some refl)
steps-before (x ∷ xs) j k some h =
    sums_keep_order (x ∷ xs) (width_at (length (x ∷ xs)) j) (width_at (length (x ∷ xs)) k) (EndsWell-width_at (length (x ∷ xs)) k) (widths-before (length xs) j k h)

pub steps-up_to : (a : List ℕ) (j k : ℕ) → a ≢ [] → j ≤ k → IsUpTo (so_far_on a j) (so_far_on a k)
steps-up_to a j k some h = elim (cases_lt j k) [
  | inl lt ↦ upto_if_before (so_far_on a j) (so_far_on a k) (steps-before a j k some lt)
  | inr ge ↦ let same : j ≡ k = omega (arith, h, ge) in subst (λ n. IsUpTo (so_far_on a j) (so_far_on a n)) same (upto_itself (so_far_on a j))
]

-- ---- a step that is a tumbler had room

pub room_if_fits : (a : List ℕ) (k : ℕ) → a ≢ [] → 0 < k → Fits a (width_at (length a) k) → last_of a + k < place_bound
room_if_fits [] k some h fit = absurd (some refl)
room_if_fits (x ∷ xs) zero some h fit = absurd (omega (arith, h))
room_if_fits (x ∷ []) (suc k) some h fit = ltb-true (x + suc k) place_bound fit
room_if_fits (x ∷ y ∷ xs) (suc k) some h fit = room_if_fits (y ∷ xs) (suc k) (λ e. cc) h fit

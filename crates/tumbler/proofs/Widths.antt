-- Widths are tumblers, and as long as asked.
use Rattle.std.proofs.Common.{◌≡◌, ◌≢◌, ℕ, zero, suc, ◌-◌, ◌<◌, ◌≤◌, [], ◌∷◌, ◌++◌, length, replicate, refl, arith, ap, ◌∙◌, sym}
use Rattle.std.proofs.lemmas.List.Elements.{All-cons, All-nil}
use Rattle.tumbler.specs.Places.{place_bound, EndsWell, IsTumbler, width_at}
use Rattle.tumbler.proofs.Tumblers.{AreSmall, EndsWell-more, EndsWell-one}

pub width_at-filled : (long n : ℕ) → 0 < long → 0 < n → width_at long n ≡ replicate (long - 1) 0 ++ n ∷ []
width_at-filled zero n h k = absurd (omega arith)
width_at-filled (suc long) zero h k = absurd (omega arith)
width_at-filled (suc long) (suc n) h k = let e : suc long - 1 ≡ long = omega arith in rw e refl

pub width_at-none : (long : ℕ) → width_at long 0 ≡ []
width_at-none zero = refl
width_at-none (suc long) = refl

length-zeros : (k n : ℕ) → length (replicate k 0 ++ n ∷ []) ≡ suc k
length-zeros zero n = refl
length-zeros (suc k) n = ap suc (length-zeros k n)

small-zeros : (k n : ℕ) → n < place_bound → AreSmall (replicate k 0 ++ n ∷ [])
small-zeros zero n h = All-cons (λ p. p < place_bound) n [] h (All-nil (λ p. p < place_bound))
small-zeros (suc k) n h = All-cons (λ p. p < place_bound) 0 (replicate k 0 ++ n ∷ []) (omega arith) (small-zeros k n h)

ends-zeros : (k n : ℕ) → EndsWell (replicate k 0 ++ suc n ∷ [])
ends-zeros zero n = EndsWell-one (suc n) (λ q. cc)
ends-zeros (suc k) n = EndsWell-more 0 (replicate k 0 ++ suc n ∷ []) (omega (arith, length-zeros k (suc n))) (ends-zeros k n)

pub length-width_at : (long n : ℕ) → 0 < n → length (width_at long n) ≡ long
length-width_at zero n h = refl
length-width_at (suc long) zero h = absurd (omega arith)
length-width_at (suc long) (suc n) h = length-zeros long (suc n)

few-width_at : (long n : ℕ) → length (width_at long n) ≤ long
few-width_at zero n = omega arith
few-width_at (suc long) zero = omega arith
few-width_at (suc long) (suc n) = omega (arith, length-zeros long (suc n))

small-width_at : (long n : ℕ) → n < place_bound → AreSmall (width_at long n)
small-width_at zero n h = All-nil (λ p. p < place_bound)
small-width_at (suc long) zero h = All-nil (λ p. p < place_bound)
small-width_at (suc long) (suc n) h = small-zeros long (suc n) h

pub EndsWell-width_at : (long n : ℕ) → EndsWell (width_at long n)
EndsWell-width_at zero n = λ _. refl
EndsWell-width_at (suc long) zero = λ _. refl
EndsWell-width_at (suc long) (suc n) = ends-zeros long n

pub width_at-is_tumbler : (long n : ℕ) → long ≤ 24 → n < place_bound → IsTumbler (width_at long n)
width_at-is_tumbler long n h k = record { few = omega (arith, few-width_at long n); small = small-width_at long n k; ends = EndsWell-width_at long n }

-- a width that is not zero has a place and a number
pub width_at-not_zero : (long n : ℕ) → 0 < long → 0 < n → width_at long n ≢ []
width_at-not_zero zero n h k q = absurd (omega arith)
width_at-not_zero (suc long) zero h k q = absurd (omega arith)
width_at-not_zero (suc long) (suc n) h k q = let e : suc long ≡ 0 = sym (length-zeros long (suc n)) ∙ ap length q in omega arith

pub ruleset widths = (width_at-filled, width_at-none, length-width_at, width_at-is_tumbler, width_at-not_zero)

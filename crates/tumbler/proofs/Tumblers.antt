-- Sums and differences of tumblers are tumblers.
use Rattle.std.proofs.Common.{◌≡◌, ◌≢◌, ℕ, zero, suc, ◌+◌, ◌-◌, ◌^◌, ◌<◌, ◌≤◌, List, [], ◌∷◌, length, drop, arith, refl, inl, inr}
use Rattle.std.specs.List.{All}
use Rattle.std.proofs.lemmas.Grind.{common_steps}
use Rattle.std.proofs.lemmas.Bool.Decides.{nat_tests}
use Rattle.std.proofs.lemmas.List.Elements.{All-cons, All-head, All-tail, All-drop}
use Rattle.tumbler.proofs.Order.{upto_cases}
use Rattle.tumbler.specs.Places.{place, place_bound, EndsWell, ArePlaces, IsTumbler, IsUpTo, sum, Fits, after_zero, difference}

abbrev pub AreSmall : List ℕ → Type 0
AreSmall = All (λ p. p < place_bound)

-- a place of small places is small, also past their end
pub place-small : (a : List ℕ) (k : ℕ) → AreSmall a → place a k < place_bound
place-small a k h = grind (arith, common_steps, h k 0)

-- ---- that the last place is not 0

pub EndsWell-more : (x : ℕ) (xs : List ℕ) → 0 < length xs → EndsWell xs → EndsWell (x ∷ xs)
EndsWell-more x [] h e = absurd (omega arith)
EndsWell-more x (y ∷ xs) h e = grind (arith, common_steps, e)

pub EndsWell-tail : (x : ℕ) (xs : List ℕ) → EndsWell (x ∷ xs) → EndsWell xs
EndsWell-tail x [] e = λ _. refl
EndsWell-tail x (y ∷ xs) e = grind (arith, common_steps, e)

pub EndsWell-one : (x : ℕ) → x ≢ 0 → EndsWell (x ∷ [])
EndsWell-one x h = grind (arith, common_steps)

pub EndsWell-last : (x : ℕ) → EndsWell (x ∷ []) → x ≢ 0
EndsWell-last x e = grind (arith, common_steps, e)

-- another first place, which is not 0
pub EndsWell-first : (x y : ℕ) (xs : List ℕ) → y ≢ 0 → EndsWell (x ∷ xs) → EndsWell (y ∷ xs)
EndsWell-first x y [] h e = EndsWell-one y h
EndsWell-first x y (z ∷ xs) h e = EndsWell-more y (z ∷ xs) (omega arith) (EndsWell-tail x (z ∷ xs) e)

pub EndsWell-drop : (a : List ℕ) → EndsWell a → EndsWell (drop 1 a)
EndsWell-drop [] e = e
EndsWell-drop (x ∷ a) e = EndsWell-tail x a e

-- ---- sums

pub length-sum : (a : List ℕ) (x : ℕ) (d : List ℕ) → EndsWell (x ∷ d) → length (sum a (x ∷ d)) ≡ length (x ∷ d)
length-sum a (suc x) d e = refl
length-sum a zero [] e = absurd (EndsWell-last 0 e refl)
length-sum a zero (y ∷ d) e = let h = length-sum (drop 1 a) y d (EndsWell-tail 0 (y ∷ d) e) in grind (arith, common_steps)

pub EndsWell-sum : (a d : List ℕ) → EndsWell a → EndsWell d → EndsWell (sum a d)
EndsWell-sum a [] e g = e
EndsWell-sum a (suc x ∷ d) e g = EndsWell-first (suc x) (place a 0 + suc x) d (omega arith) g
EndsWell-sum a (zero ∷ []) e g = absurd (EndsWell-last 0 g refl)
EndsWell-sum a (zero ∷ y ∷ d) e g =
    let t = EndsWell-tail 0 (y ∷ d) g in
    let long = length-sum (drop 1 a) y d t in
    EndsWell-more (place a 0) (sum (drop 1 a) (y ∷ d)) (grind (arith, common_steps)) (EndsWell-sum (drop 1 a) (y ∷ d) (EndsWell-drop a e) t)

pub AreSmall-sum : (a d : List ℕ) → AreSmall a → AreSmall d → Fits a d → AreSmall (sum a d)
AreSmall-sum a [] h g f = h
AreSmall-sum a (suc x ∷ d) h g f = All-cons (λ p. p < 2 ^ 32) (place a 0 + suc x) d (grind (arith, nat_tests)) (All-tail (λ p. p < 2 ^ 32) (suc x) d g)
AreSmall-sum a (zero ∷ d) h g f =
    All-cons (λ p. p < 2 ^ 32) (place a 0) (sum (drop 1 a) d) (place-small a 0 h)
    (AreSmall-sum (drop 1 a) d (All-drop (λ p. p < 2 ^ 32) 1 a h) (All-tail (λ p. p < 2 ^ 32) 0 d g) f)

few-sum : (a d : List ℕ) → length a ≤ 24 → length d ≤ 24 → EndsWell d → length (sum a d) ≤ 24
few-sum a [] h g e = h
few-sum a (x ∷ d) h g e = rw (length-sum a x d e) g

-- a sum of tumblers that fits is a tumbler
pub sum-is_tumbler : (a d : List ℕ) → IsTumbler a → IsTumbler d → Fits a d → IsTumbler (sum a d)
sum-is_tumbler a d h g f = record {
  few = few-sum a d h.few g.few g.ends;
  small = AreSmall-sum a d h.small g.small f;
  ends = EndsWell-sum a d h.ends g.ends;
}

-- ---- differences

pub EndsWell-after_zero : (d : List ℕ) → EndsWell d → EndsWell (after_zero d)
EndsWell-after_zero [] e = e
EndsWell-after_zero (x ∷ d) e = EndsWell-more 0 (x ∷ d) (omega arith) e

pub AreSmall-after_zero : (d : List ℕ) → AreSmall d → AreSmall (after_zero d)
AreSmall-after_zero [] h = h
AreSmall-after_zero (x ∷ d) h = All-cons (λ p. p < 2 ^ 32) 0 (x ∷ d) (omega arith) h

length-after_zero : (d : List ℕ) → length (after_zero d) ≤ suc (length d)
length-after_zero [] = omega arith
length-after_zero (x ∷ d) = omega arith

pub difference-same : (x : ℕ) (b a : List ℕ) → difference (x ∷ b) (x ∷ a) ≡ after_zero (difference b a)
difference-same x b a = grind (arith, nat_tests)

pub difference-less : (y x : ℕ) (b a : List ℕ) → x < y → difference (y ∷ b) (x ∷ a) ≡ (y - x) ∷ b
difference-less y x b a h = grind (arith, nat_tests)

pub difference-are_places : (b a : List ℕ) → AreSmall b → EndsWell b → IsUpTo a b → ArePlaces (difference b a)
difference-are_places b [] h e u = record { small = h; ends = e }
difference-are_places [] (x ∷ a) h e u = record { small = h; ends = e }
difference-are_places (y ∷ b) (x ∷ a) h e u = elim (upto_cases x y a b u) [
  | inl less ↦ rw (difference-less y x b a less) record {
    small = All-cons (λ p. p < 2 ^ 32) (y - x) b (let k = All-head (λ p. p < 2 ^ 32) y b h in omega arith) (All-tail (λ p. p < 2 ^ 32) y b h);
    ends = EndsWell-first y (y - x) b (omega arith) e;
  }
  | inr same ↦ let rest = difference-are_places b a (All-tail (λ p. p < 2 ^ 32) y b h) (EndsWell-tail y b e) same.1 in
      rw (same.0, difference-same y b a) record {
        small = AreSmall-after_zero (difference b a) rest.small;
        ends = EndsWell-after_zero (difference b a) rest.ends;
      }
]

pub length-difference : (b a : List ℕ) → IsUpTo a b → length (difference b a) ≤ length b
length-difference b [] u = omega arith
length-difference [] (x ∷ a) u = omega arith
length-difference (y ∷ b) (x ∷ a) u = elim (upto_cases x y a b u) [
  | inl less ↦ rw (difference-less y x b a less) (omega arith)
  | inr same ↦ let rest = length-difference b a same.1 in rw (same.0, difference-same y b a) (omega (arith, length-after_zero))
]

-- the difference of tumblers, the lesser one from the greater, is a tumbler
pub difference-is_tumbler : (b a : List ℕ) → IsTumbler b → IsTumbler a → IsUpTo a b → IsTumbler (difference b a)
difference-is_tumbler b a h g u =
    let places = difference-are_places b a h.small h.ends u in
    let short = length-difference b a u in
    record { few = omega arith; small = places.small; ends = places.ends }

-- that sums and differences of tumblers are tumblers
pub ruleset made_tumblers = (sum-is_tumbler, difference-is_tumbler)

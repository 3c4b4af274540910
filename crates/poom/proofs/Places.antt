-- Places of two: how they are ordered, and where a shift takes them.
use Rattle.std.proofs.Common.{◌≡◌, ℕ, zero, suc, ◌+◌, ◌-◌, ◌^◌, ◌<◌, ◌≤◌, Bool, true, false, List, [], ◌∷◌, refl, arith, ap, ◌∙◌, inl, inr}
use Rattle.std.specs.Prelude.{◌⊎◌, if◌then◌else◌}
use Rattle.std.proofs.lemmas.Bool.Decides.{nat_tests}
use Rattle.std.proofs.lemmas.List.Elements.{All-cons, All-nil}
use Rattle.tumbler.specs.Places.{place_bound, IsTumbler, IsUpTo, comes_before, sum, after_zero, difference}
use Rattle.tumbler.proofs.Order.{before_by_first, before_by_rest}
use Rattle.tumbler.proofs.Before.{true_if_before, false_if_up_to}
use Rattle.tumbler.proofs.Tumblers.{EndsWell-one, EndsWell-more, difference-same, difference-less}
use Rattle.enfilade_core.specs.Edits.{shift_coordinate}

pub before_there : (part n m : ℕ) → n < m → comes_before (part ∷ n ∷ []) (part ∷ m ∷ []) ≡ true
before_there part n m h = true_if_before (part ∷ n ∷ []) (part ∷ m ∷ []) (before_by_rest part (n ∷ []) (m ∷ []) (before_by_first n m [] [] h))

pub up_to_there : (part n m : ℕ) → n ≤ m → IsUpTo (part ∷ n ∷ []) (part ∷ m ∷ [])
up_to_there part n m h = grind (arith, nat_tests)

pub past_there : (part n m : ℕ) → m ≤ n → comes_before (part ∷ n ∷ []) (part ∷ m ∷ []) ≡ false
past_there part n m h = false_if_up_to (part ∷ n ∷ []) (part ∷ m ∷ []) (up_to_there part m n h)

pub if_true : {X : Type 0} (b : Bool) (x y : X) → b ≡ true → (if b then x else y) ≡ x
if_true true x y e = refl
if_true false x y e = cc

pub if_false : {X : Type 0} (b : Bool) (x y : X) → b ≡ false → (if b then x else y) ≡ y
if_false true x y e = cc
if_false false x y e = refl

sum-one : (o d : ℕ) → 0 < d → sum (o ∷ []) (d ∷ []) ≡ (o + d) ∷ []
sum-one o zero h = absurd (omega arith)
sum-one o (suc d) h = refl

-- where a place lies beyond the one that is moved, it moves with it
further : (part t o m r : ℕ) → (t ≡ m) ⊎ (t < m) → m + o ≡ t + r → sum (part ∷ o ∷ []) (after_zero (difference (m ∷ []) (t ∷ []))) ≡ part ∷ r ∷ []
further part t o m r (inl same) e =
    let here : o ≡ r = omega arith in
    let none : difference (m ∷ []) (t ∷ []) ≡ [] = rw same (difference-same m [] []) in
    ap (λ (d : List ℕ). sum (part ∷ o ∷ []) (after_zero d)) none ∙ ap (λ (n : ℕ). part ∷ n ∷ []) here
further part t o m r (inr less) e =
    let there : o + (m - t) ≡ r = omega arith in
    let more : 0 < m - t = omega arith in
    ap (λ (d : List ℕ). sum (part ∷ o ∷ []) (after_zero d)) (difference-less m t [] [] less)
    ∙ ap (λ (s : List ℕ). part ∷ s) (sum-one o (m - t) more ∙ ap (λ (n : ℕ). n ∷ []) there)

pub shift_same : (part t o m r : ℕ) → t ≤ m → m + o ≡ t + r → shift_coordinate (part ∷ t ∷ []) (part ∷ o ∷ []) (part ∷ m ∷ []) ≡ part ∷ r ∷ []
shift_same part t o m r h e =
    let split : (t ≡ m) ⊎ (t < m) = grind arith in
    if_false (comes_before (part ∷ m ∷ []) (part ∷ t ∷ [])) (part ∷ m ∷ []) (sum (part ∷ o ∷ []) (difference (part ∷ m ∷ []) (part ∷ t ∷ []))) (past_there part m t h)
    ∙ ap (sum (part ∷ o ∷ [])) (difference-same part (m ∷ []) (t ∷ [])) ∙ further part t o m r split e

-- links stay where text moves
pub shift_link : (t o m : ℕ) → shift_coordinate (1 ∷ t ∷ []) (1 ∷ o ∷ []) (2 ∷ m ∷ []) ≡ 2 ∷ m ∷ []
shift_link t o m = refl

pub place-is_tumbler : (part n : ℕ) → part < 3 → 1 ≤ n → n < 2 ^ 32 → IsTumbler (part ∷ n ∷ [])
place-is_tumbler part n p h k = record {
  few = omega arith;
  small = All-cons (λ x. x < place_bound) part (n ∷ []) (omega arith) (All-cons (λ x. x < place_bound) n [] k (All-nil (λ x. x < place_bound)));
  ends = EndsWell-more part (n ∷ []) (omega arith) (EndsWell-one n (omega arith));
}

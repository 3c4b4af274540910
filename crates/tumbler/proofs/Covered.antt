-- What comes up to a displacement fits where the displacement's lead covers the base.
use Rattle.std.proofs.Common.{◌≡◌, ℕ, zero, suc, ◌+◌, ◌^◌, ◌<◌, ◌≤◌, List, [], ◌∷◌, length, drop, refl, arith, sym, subst, inl, inr}
use Rattle.std.proofs.lemmas.List.{length-drop, drop_all}
use Rattle.std.proofs.lemmas.List.Elements.{All-head, All-tail}
use Rattle.tumbler.specs.Places.{place, IsUpTo, sum, Fits}
use Rattle.tumbler.specs.Reach.{IsCovered}
use Rattle.tumbler.specs.Laws.{CoveredFits}
use Rattle.tumbler.proofs.Tumblers.{AreSmall}
use Rattle.tumbler.proofs.Before.{none_up_to}
use Rattle.tumbler.proofs.Sums.{fits-nonzero}
use Rattle.tumbler.proofs.Differences.{fits-difference}
use Rattle.tumbler.proofs.DifferenceSteps.{IsUpTo-head, IsUpTo-rest}

covered_rest : (a d : List ℕ) → IsCovered a (0 ∷ d) → IsCovered (drop 1 a) d
covered_rest a d c = elim c [
  | inl none ↦ absurd (omega (arith, none))
  | inr le ↦ inr (omega (arith, length-drop 1 a, le))
]

covered_one : (a : List ℕ) (x : ℕ) (d : List ℕ) → IsCovered a (suc x ∷ d) → drop 1 a ≡ []
covered_one a x d c = elim c [
  | inl none ↦ absurd (omega (arith, none))
  | inr le ↦ drop_all 1 a (omega (arith, le))
]

covers : (a e d : List ℕ) → AreSmall e → AreSmall (sum a d) → IsUpTo e d → IsCovered a d → Fits a e
covers a [] d h g up_to c = refl
covers a (x ∷ e) [] h g up_to c = absurd (up_to refl)
covers a (suc x ∷ e) (zero ∷ d) h g up_to c = let head : suc x ≤ 0 = IsUpTo-head (suc x) 0 e d up_to in absurd (omega (arith, head))
covers a (zero ∷ e) (zero ∷ d) h g up_to c =
    covers (drop 1 a) e d (All-tail (λ p. p < 2 ^ 32) 0 e h) (All-tail (λ p. p < 2 ^ 32) (place a 0) (sum (drop 1 a) d) g) (IsUpTo-rest 0 0 e d refl up_to) (covered_rest a d c)
covers a (zero ∷ e) (suc y ∷ d) h g up_to c =
    subst (λ (r : List ℕ). Fits r e) (sym (covered_one a y d c)) (fits-difference [] e (All-tail (λ p. p < 2 ^ 32) 0 e h) (none_up_to e))
covers a (suc x ∷ e) (suc y ∷ d) h g up_to c =
    let head : suc x ≤ suc y = IsUpTo-head (suc x) (suc y) e d up_to in
    let small : place a 0 + suc y < 2 ^ 32 = All-head (λ p. p < 2 ^ 32) (place a 0 + suc y) d g in
    (fits-nonzero a (suc x) e (λ z. absurd (omega (arith, z)))).1 (omega (arith, head, small))

pub covered_fits : CoveredFits
covered_fits a e d h g up_to c = covers a e d h.small g.small up_to c

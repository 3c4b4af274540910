-- The difference of two lists, by their first places.
use Rattle.std.proofs.Common.{◌≡◌, ◌≢◌, ℕ, ◌-◌, ◌≤◌, eqb, List, [], ◌∷◌, ◌++◌, refl, arith, ap, ◌∙◌, sym}
use Rattle.std.proofs.lemmas.Bool.Decides.{nat_tests}
use Rattle.std.proofs.lemmas.Bool.{eq-eqb, ne_eqb, cond-true, cond-false}
use Rattle.std.specs.Ordering.{nat_cmp, ordering_then}
use Rattle.std.specs.declared.cmp.Ordering.{Ordering}
use Rattle.std.specs.declared.cmp.Ordering.TheVariants.{Equal}
use Rattle.std.specs.Cmp.Lexicographic.{slice_cmp}
use Rattle.tumbler.specs.Places.{difference, after_zero, IsUpTo}

nat_cmp-same : (x y : ℕ) → x ≡ y → nat_cmp x y ≡ Equal
nat_cmp-same x y e = grind (arith, nat_tests)

-- lists with the same head compare as their rests do
pub slice_cmp-same : (x y : ℕ) (a b : List ℕ) → x ≡ y → slice_cmp nat_cmp (x ∷ a) (y ∷ b) ≡ slice_cmp nat_cmp a b
slice_cmp-same x y a b e = ap (λ (o : Ordering). ordering_then o (slice_cmp nat_cmp a b)) (nat_cmp-same x y e)

pub IsUpTo-rest : (x y : ℕ) (a b : List ℕ) → x ≡ y → IsUpTo (x ∷ a) (y ∷ b) → IsUpTo a b
IsUpTo-rest x y a b e h = λ g. h (slice_cmp-same x y a b e ∙ g)

pub IsUpTo-head : (x y : ℕ) (a b : List ℕ) → IsUpTo (x ∷ a) (y ∷ b) → x ≤ y
IsUpTo-head x y a b h = grind (arith, nat_tests)

pub difference-same : (y x : ℕ) (b a : List ℕ) → x ≡ y → difference (y ∷ b) (x ∷ a) ≡ after_zero (difference b a)
difference-same y x b a e = cond-true (eqb y x) _ _ (eq-eqb y x (sym e))

pub difference-apart : (y x : ℕ) (b a : List ℕ) → x ≢ y → difference (y ∷ b) (x ∷ a) ≡ (y - x) ∷ b
difference-apart y x b a n = cond-false (eqb y x) _ _ (ne_eqb y x (λ e. n (sym e)))

pub after_zero-filled : (places front : List ℕ) (x : ℕ) (rest : List ℕ) → places ≡ front ++ x ∷ rest → after_zero places ≡ 0 ∷ places
after_zero-filled [] [] x rest e = absurd cc
after_zero-filled [] (y ∷ front) x rest e = absurd cc
after_zero-filled (z ∷ places) front x rest e = refl

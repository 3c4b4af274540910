-- The order of places: the two first ones decide it, or else the rest.
use Rattle.std.proofs.Common.{◌≡◌, ◌≢◌, ℕ, ◌<◌, List, [], ◌∷◌, arith, refl, sym, ◌∙◌, inl, inr}
use Rattle.std.specs.Prelude.{◌⊎◌}
use Rattle.std.specs.Ordering.{nat_cmp, ordering_reverse}
use Rattle.std.specs.Cmp.Lexicographic.{slice_cmp, nat_list_cmp_total}
use Rattle.std.specs.declared.cmp.Ordering.{Ordering}
use Rattle.std.specs.declared.cmp.Ordering.TheVariants.{Less, Equal, Greater}
use Rattle.std.proofs.lemmas.Cmp.{alike_right}
use Rattle.std.proofs.lemmas.Bool.Decides.{nat_tests}
use Rattle.tumbler.specs.Places.{IsBefore, IsUpTo}

pub before_by_first : (x y : ℕ) (a b : List ℕ) → x < y → IsBefore (x ∷ a) (y ∷ b)
before_by_first x y a b h = grind (arith, nat_tests)

pub before_by_rest : (x : ℕ) (a b : List ℕ) → IsBefore a b → IsBefore (x ∷ a) (x ∷ b)
before_by_rest x a b h = grind (arith, nat_tests)

pub before_cases : (x y : ℕ) (a b : List ℕ) → IsBefore (x ∷ a) (y ∷ b) → (x < y) ⊎ ((x ≡ y) × IsBefore a b)
before_cases x y a b h = grind (arith, nat_tests)

pub upto_cases : (x y : ℕ) (a b : List ℕ) → IsUpTo (x ∷ a) (y ∷ b) → (x < y) ⊎ ((x ≡ y) × IsUpTo a b)
upto_cases x y a b h = grind (arith, nat_tests)

pub upto_by_rest : (x : ℕ) (a b : List ℕ) → IsUpTo a b → IsUpTo (x ∷ a) (x ∷ b)
upto_by_rest x a b h = grind (arith, nat_tests)

pub upto_itself : (a : List ℕ) → IsUpTo a a
upto_itself [] = grind (arith, nat_tests)
upto_itself (x ∷ a) = upto_by_rest x a a (upto_itself a)

pub upto_if_before : (a b : List ℕ) → IsBefore a b → IsUpTo a b
upto_if_before a b h = grind (arith, nat_tests)

pub never_before_itself : (a : List ℕ) → IsBefore a a → ⊥
never_before_itself a h = grind (arith, nat_tests, nat_list_cmp_total.antisymm a a)

-- not greater is less or equal
not_greater : (r : Ordering) → r ≢ Greater → (r ≡ Less) ⊎ (r ≡ Equal)
not_greater Less h = inl refl
not_greater Equal h = inr refl
not_greater Greater h = absurd (h refl)

pub upto_by_cases : (a b : List ℕ) → IsUpTo a b → IsBefore a b ⊎ (slice_cmp nat_cmp a b ≡ Equal)
upto_by_cases a b h = not_greater (slice_cmp nat_cmp a b) h

pub before_before : (a b c : List ℕ) → IsBefore a b → IsBefore b c → IsBefore a c
before_before a b c h k = nat_list_cmp_total.trans a b c h k

pub before_upto : (a b c : List ℕ) → IsBefore a b → IsUpTo b c → IsBefore a c
before_upto a b c h k = elim (upto_by_cases b c k) [
  | inl less ↦ before_before a b c h less
  | inr tied ↦ sym (alike_right nat_list_cmp_total b c a tied) ∙ h
]

pub upto_before : (a b c : List ℕ) → IsUpTo a b → IsBefore b c → IsBefore a c
upto_before a b c h k = elim (upto_by_cases a b h) [
  | inl less ↦ before_before a b c less k
  | inr tied ↦ nat_list_cmp_total.congr a b c tied ∙ k
]

pub upto_upto : (a b c : List ℕ) → IsUpTo a b → IsUpTo b c → IsUpTo a c
upto_upto a b c h k = elim (upto_by_cases a b h) [
  | inl less ↦ upto_if_before a c (before_upto a b c less k)
  | inr tied ↦ λ e. k (sym (nat_list_cmp_total.congr a b c tied) ∙ e)
]

cases_back : (r s : Ordering) → r ≡ ordering_reverse s → (r ≢ Greater) ⊎ (s ≡ Less)
cases_back Less s e = inl (λ q. cc)
cases_back Equal s e = inl (λ q. cc)
cases_back Greater Less e = inr refl
cases_back Greater Equal e = cc
cases_back Greater Greater e = cc

pub upto_or_before : (a b : List ℕ) → IsUpTo a b ⊎ IsBefore b a
upto_or_before a b = cases_back (slice_cmp nat_cmp a b) (slice_cmp nat_cmp b a) (nat_list_cmp_total.antisymm a b)

-- places that tie are the same
pub same_if_tied : (a b : List ℕ) → slice_cmp nat_cmp a b ≡ Equal → a ≡ b
same_if_tied [] [] h = refl
same_if_tied [] (y ∷ b) h = cc
same_if_tied (x ∷ a) [] h = cc
same_if_tied (x ∷ a) (y ∷ b) h =
    let heads : (x ≡ y) × (slice_cmp nat_cmp a b ≡ Equal) = grind (arith, nat_tests) in
    let rest = same_if_tied a b heads.1 in
    cc

-- how the order chains, and that it is total
pub ruleset place_order = (before_before, before_upto, upto_before, upto_upto, upto_if_before, upto_itself, upto_or_before, never_before_itself)

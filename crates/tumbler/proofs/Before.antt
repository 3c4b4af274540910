-- The test of the order says what the order says.
use Rattle.std.proofs.Common.{◌≡◌, true, false, List, [], ◌∷◌, ℕ, refl, inl, inr}
use Rattle.std.specs.Ordering.{nat_cmp, is_lt}
use Rattle.std.specs.Cmp.Lexicographic.{slice_cmp}
use Rattle.std.specs.declared.cmp.Ordering.{Ordering}
use Rattle.std.specs.declared.cmp.Ordering.TheVariants.{Less, Equal, Greater}
use Rattle.tumbler.specs.Places.{IsBefore, IsUpTo, comes_before}
use Rattle.tumbler.proofs.Order.{upto_or_before, before_upto, never_before_itself, upto_by_cases, same_if_tied}

less_if_true : (r : Ordering) → is_lt r ≡ true → r ≡ Less
less_if_true Less e = refl
less_if_true Equal e = cc
less_if_true Greater e = cc

false_unless_less : (r : Ordering) → (r ≡ Less → ⊥) → is_lt r ≡ false
false_unless_less Less n = absurd (n refl)
false_unless_less Equal n = refl
false_unless_less Greater n = refl

pub before_if_true : (a b : List ℕ) → comes_before a b ≡ true → IsBefore a b
before_if_true a b e = less_if_true (slice_cmp nat_cmp a b) e

pub true_if_before : (a b : List ℕ) → IsBefore a b → comes_before a b ≡ true
true_if_before a b h = rw h refl

pub up_to_if_false : (a b : List ℕ) → comes_before a b ≡ false → IsUpTo b a
up_to_if_false a b e = elim (upto_or_before b a) [
  | inl le ↦ le
  | inr lt ↦ absurd (let same : comes_before a b ≡ true = true_if_before a b lt in cc)
]

pub false_if_up_to : (a b : List ℕ) → IsUpTo b a → comes_before a b ≡ false
false_if_up_to a b le = false_unless_less (slice_cmp nat_cmp a b) (λ lt. never_before_itself a (before_upto a b a lt le))

-- nothing comes before zero
pub never_before_none : (a : List ℕ) → IsBefore a [] → ⊥
never_before_none [] h = cc
never_before_none (x ∷ a) h = cc

pub none_up_to : (a : List ℕ) → IsUpTo [] a
none_up_to [] = λ e. cc
none_up_to (x ∷ a) = λ e. cc

pub up_to_none : (a : List ℕ) → IsUpTo a [] → a ≡ []
up_to_none [] h = refl
up_to_none (x ∷ a) h = absurd (h refl)

-- each up to the other, they are the same
pub same_if_up_to : (a b : List ℕ) → IsUpTo a b → IsUpTo b a → a ≡ b
same_if_up_to a b h k = elim (upto_by_cases a b h) [
  | inl less ↦ absurd (never_before_itself a (before_upto a b a less k))
  | inr tied ↦ same_if_tied a b tied
]

-- the test of the order and the order, in both directions
pub ruleset before_tests = (before_if_true, true_if_before, up_to_if_false, false_if_up_to)

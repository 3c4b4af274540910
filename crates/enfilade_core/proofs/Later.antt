-- The later of two places.
use Rattle.std.proofs.Common.{◌≡◌, ℕ, List, [], refl, ap, ◌∙◌, sym, subst, inl, inr}
use Rattle.tumbler.specs.Places.{EndsWell, IsBefore, IsUpTo, sum}
use Rattle.tumbler.proofs.Order.{before_before, upto_upto, upto_or_before}
use Rattle.tumbler.proofs.Before.{true_if_before, false_if_up_to, none_up_to, same_if_up_to}
use Rattle.tumbler.proofs.Sums.{sums_keep_order}
use Rattle.tumbler.proofs.SumOrder.{sums_up_to}
use Rattle.enfilade_core.specs.Axes.{later}

pub later-second : (a b : List ℕ) → IsBefore a b → later a b ≡ b
later-second a b h = rw (true_if_before a b h) refl

pub later-first : (a b : List ℕ) → IsUpTo b a → later a b ≡ a
later-first a b h = rw (false_if_up_to a b h) refl

pub later-none : (a : List ℕ) → later a [] ≡ a
later-none a = later-first a [] (none_up_to a)

pub none-later : (a : List ℕ) → later [] a ≡ a
none-later a = elim (upto_or_before a []) [
  | inl le ↦ later-first [] a le ∙ same_if_up_to [] a (none_up_to a) le
  | inr lt ↦ later-second [] a lt
]

pub later_assoc : (a b c : List ℕ) → later (later a b) c ≡ later a (later b c)
later_assoc a b c = elim (upto_or_before b a) [
  | inl ba ↦ ap (λ (x : List ℕ). later x c) (later-first a b ba) ∙ elim (upto_or_before c b) [
    | inl cb ↦ later-first a c (upto_upto c b a cb ba) ∙ sym (ap (later a) (later-first b c cb) ∙ later-first a b ba)
    | inr bc ↦ ap (later a) (sym (later-second b c bc))
  ]
  | inr ab ↦ ap (λ (x : List ℕ). later x c) (later-second a b ab) ∙ elim (upto_or_before c b) [
    | inl cb ↦ later-first b c cb ∙ sym (ap (later a) (later-first b c cb) ∙ later-second a b ab)
    | inr bc ↦ later-second b c bc ∙ sym (ap (later a) (later-second b c bc) ∙ later-second a c (before_before a b c ab bc))
  ]
]

pub later-sums : (d a b : List ℕ) → EndsWell a → EndsWell b → later (sum d a) (sum d b) ≡ sum d (later a b)
later-sums d a b e g = elim (upto_or_before b a) [
  | inl ba ↦ later-first (sum d a) (sum d b) (sums_up_to d b a e ba) ∙ ap (sum d) (sym (later-first a b ba))
  | inr ab ↦ later-second (sum d a) (sum d b) (sums_keep_order d a b g ab) ∙ ap (sum d) (sym (later-second a b ab))
]

pub EndsWell-later : (a b : List ℕ) → EndsWell a → EndsWell b → EndsWell (later a b)
EndsWell-later a b e g = elim (upto_or_before b a) [
  | inl ba ↦ subst EndsWell (sym (later-first a b ba)) e
  | inr ab ↦ subst EndsWell (sym (later-second a b ab)) g
]

-- How many addresses come before a place, by halving.
use Rattle.std.proofs.Common.{◌≡◌, ◌≢◌, ℕ, zero, suc, ◌+◌, ◌-◌, ◌<◌, ◌≤◌, true, false, ltb, min, List, [], ◌∷◌, ◌++◌, refl, arith, ap, ◌∙◌, sym, subst, inl, inr}
use Rattle.std.proofs.lemmas.Bool.{cases_lt, lt-ltb, le-ltb}
use Rattle.std.specs.Prelude.{Bool, not, nat_eq}
use Rattle.std.specs.Cmp.Lexicographic.{pointwise, same_text}
use Rattle.tumbler.specs.Places.{IsBefore, IsUpTo, comes_before}
use Rattle.tumbler.proofs.Order.{before_before, before_by_first, before_by_rest, upto_upto, upto_if_before, upto_itself}
use Rattle.tumbler.proofs.Before.{before_if_true, true_if_before, up_to_if_false, false_if_up_to}
use Rattle.granfilade.specs.Content.{so_far_on}
use Rattle.granfilade.proofs.Stepping.{steps-before, steps-up_to}

-- those below one number come before the place, and those from another number on do not
pub record Halved (start : List ℕ) (count : ℕ) (at : List ℕ) (low high : ℕ) : Type 0 where
  pub ordered : low ≤ high
  pub within : high ≤ count
  pub front : (k : ℕ) → k < low → comes_before (so_far_on start k) at ≡ true
  pub back : (k : ℕ) → high ≤ k → k < count → comes_before (so_far_on start k) at ≡ false

pub halved-first : (start : List ℕ) (count : ℕ) (at : List ℕ) → Halved start count at 0 count
halved-first start count at = record {
  ordered = omega arith;
  within = omega arith;
  front = λ k h. absurd (omega (arith, h));
  back = λ k h lt. absurd (omega (arith, h, lt));
}

pub halved-up : (start : List ℕ) (count : ℕ) (at : List ℕ) (low high middle : ℕ) → start ≢ [] → middle < high → comes_before (so_far_on start middle) at ≡ true → Halved start count at low high
    → Halved start count at (middle + 1) high
halved-up start count at low high middle some lt here h = record {
  ordered = omega (arith, lt);
  within = h.within;
  front = λ k less. elim (cases_lt k middle) [
    | inl before ↦ true_if_before (so_far_on start k) at
        (before_before (so_far_on start k) (so_far_on start middle) at (steps-before start k middle some before) (before_if_true (so_far_on start middle) at here))
    | inr from ↦ let same : middle ≡ k = omega (arith, less, from) in subst (λ n. comes_before (so_far_on start n) at ≡ true) same here
  ];
  back = h.back;
}

pub halved-down : (start : List ℕ) (count : ℕ) (at : List ℕ) (low high middle : ℕ) → start ≢ [] → low ≤ middle → middle < high → comes_before (so_far_on start middle) at ≡ false → Halved start count at low high
    → Halved start count at low middle
halved-down start count at low high middle some le lt here h = record {
  ordered = le;
  within = omega (arith, lt, h.within);
  front = h.front;
  back = λ k from less. false_if_up_to (so_far_on start k) at
      (upto_upto at (so_far_on start middle) (so_far_on start k) (up_to_if_false (so_far_on start middle) at here) (steps-up_to start middle k some from));
}

pub halved-done : (start : List ℕ) (count : ℕ) (at : List ℕ) (low high : ℕ) → high ≤ low → Halved start count at low high → (k : ℕ) → k < count → comes_before (so_far_on start k) at ≡ ltb k low
halved-done start count at low high le h k lt = elim (cases_lt k low) [
  | inl before ↦ h.front k before ∙ sym (lt-ltb k low before)
  | inr from ↦ h.back k (omega (arith, le, from)) lt ∙ sym (le-ltb k low from)
]

-- all come before the place where the last one does
pub all-before : (start : List ℕ) (count : ℕ) (at : List ℕ) → start ≢ [] → 0 < count → comes_before (so_far_on start (count - 1)) at ≡ true → (k : ℕ) → k < count → comes_before (so_far_on start k) at ≡ ltb k count
all-before start count at some few here k lt =
    let same : count - 1 + 1 ≡ count = omega (arith, few) in
    halved-done start count at (count - 1 + 1) count (omega (arith, few)) (halved-up start count at 0 count (count - 1) some (omega (arith, few)) here (halved-first start count at)) k lt ∙ ap (ltb k) same

-- ---- a place that differs at the last place at most

step_at_last : (front : List ℕ) (l k : ℕ) → so_far_on (front ++ l ∷ []) k ≡ front ++ (l + k) ∷ []
step_at_last [] l zero = ap (λ (n : ℕ). n ∷ []) (omega arith)
step_at_last [] l (suc k) = refl
step_at_last (x ∷ front) l zero = ap (λ (n : ℕ). x ∷ front ++ n ∷ []) (omega arith)
step_at_last (x ∷ []) l (suc k) = refl
step_at_last (x ∷ y ∷ front) l (suc k) = ap (λ (places : List ℕ). x ∷ places) (step_at_last (y ∷ front) l (suc k))

before_at_last : (front : List ℕ) (x y : ℕ) → x < y → IsBefore (front ++ x ∷ []) (front ++ y ∷ [])
before_at_last [] x y h = before_by_first x y [] [] h
before_at_last (z ∷ front) x y h = before_by_rest z (front ++ x ∷ []) (front ++ y ∷ []) (before_at_last front x y h)

up_to_at_last : (front : List ℕ) (x y : ℕ) → x ≤ y → IsUpTo (front ++ x ∷ []) (front ++ y ∷ [])
up_to_at_last front x y h = elim (cases_lt x y) [
  | inl lt ↦ upto_if_before (front ++ x ∷ []) (front ++ y ∷ []) (before_at_last front x y lt)
  | inr ge ↦ let same : x ≡ y = omega (arith, h, ge) in subst (λ n. IsUpTo (front ++ x ∷ []) (front ++ n ∷ [])) same (upto_itself (front ++ x ∷ []))
]

last_decides : (front : List ℕ) (l m count k : ℕ) → k < count → comes_before (so_far_on (front ++ l ∷ []) k) (front ++ m ∷ []) ≡ ltb k (min (m - l) count)
last_decides front l m count k h = elim (cases_lt (l + k) m) [
  | inl lt ↦ rw (step_at_last front l k)
      (true_if_before (front ++ (l + k) ∷ []) (front ++ m ∷ []) (before_at_last front (l + k) m lt) ∙ sym (lt-ltb k (min (m - l) count) (omega (arith, lt, h))))
  | inr ge ↦ rw (step_at_last front l k)
      (false_if_up_to (front ++ (l + k) ∷ []) (front ++ m ∷ []) (up_to_at_last front m (l + k) ge) ∙ sym (le-ltb k (min (m - l) count) (omega (arith, ge))))
]

pub same_places : (a b : List ℕ) → not (pointwise nat_eq a b) ≡ false → a ≡ b
same_places a b e = same_text a b (true_test (pointwise nat_eq a b) e)
  where
    true_test : (t : Bool) → not t ≡ false → true ≡ t
    true_test true e = refl
    true_test false e = cc

pub told_by_last : (start at front beside : List ℕ) (l m count : ℕ) → start ≡ front ++ l ∷ [] → at ≡ beside ++ m ∷ [] → not (pointwise nat_eq front beside) ≡ false → (k : ℕ) → k < count → comes_before (so_far_on start k) at ≡ ltb k (min (m - l) count)
told_by_last start at front beside l m count is there test k h =
    rw (is, there, ← same_places front beside test) (last_decides front l m count k h)

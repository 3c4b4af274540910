-- Where a place lies among positions, by its first places.
use Rattle.std.proofs.Common.{◌≡◌, ◌≢◌, ℕ, ◌+◌, ◌<◌, ◌≤◌, true, false, List, [], ◌∷◌, length, refl, arith, subst}
use Rattle.tumbler.specs.Places.{place, comes_before, IsBefore, IsUpTo}
use Rattle.tumbler.proofs.Order.{before_by_first, before_by_rest, upto_by_rest, upto_itself, upto_if_before}
use Rattle.tumbler.proofs.Before.{true_if_before, false_if_up_to, none_up_to}
use Rattle.poom.specs.Bounds.{IsBound}

-- ---- a position and a place, by cases

by_first : (part m : ℕ) (s : List ℕ) → 0 < length s → part < place s 0 → comes_before (part ∷ m ∷ []) s ≡ true
by_first part m [] h l = absurd (omega arith)
by_first part m (x ∷ s) h l = true_if_before (part ∷ m ∷ []) (x ∷ s) (before_by_first part x (m ∷ []) s l)

past_none : (part m : ℕ) (s : List ℕ) → length s ≡ 0 → comes_before (part ∷ m ∷ []) s ≡ false
past_none part m [] h = refl
past_none part m (x ∷ s) h = absurd (omega arith)

past_first : (part m : ℕ) (s : List ℕ) → place s 0 < part → comes_before (part ∷ m ∷ []) s ≡ false
past_first part m [] h = refl
past_first part m (x ∷ s) h = false_if_up_to (part ∷ m ∷ []) (x ∷ s) (upto_if_before (x ∷ s) (part ∷ m ∷ []) (before_by_first x part s (m ∷ []) h))

past_one : (part m : ℕ) (s : List ℕ) → length s ≡ 1 → place s 0 ≡ part → comes_before (part ∷ m ∷ []) s ≡ false
past_one part m [] h e = refl
past_one part m (x ∷ []) h e = false_if_up_to (part ∷ m ∷ []) (x ∷ []) (subst (λ (p : ℕ). IsUpTo (x ∷ []) (p ∷ m ∷ [])) e (upto_by_rest x [] (m ∷ []) (none_up_to (m ∷ []))))
past_one part m (x ∷ y ∷ s) h e = absurd (omega arith)

by_second : (part m : ℕ) (s : List ℕ) → 2 ≤ length s → place s 0 ≡ part → m < place s 1 → comes_before (part ∷ m ∷ []) s ≡ true
by_second part m [] h e l = absurd (omega arith)
by_second part m (x ∷ []) h e l = absurd (omega arith)
by_second part m (x ∷ y ∷ s) h e l = true_if_before (part ∷ m ∷ []) (x ∷ y ∷ s) (subst (λ (p : ℕ). IsBefore (p ∷ m ∷ []) (x ∷ y ∷ s)) e (before_by_rest x (m ∷ []) (y ∷ s) (before_by_first m y [] s l)))

past_second : (part m : ℕ) (s : List ℕ) → 2 ≤ length s → place s 0 ≡ part → place s 1 < m → comes_before (part ∷ m ∷ []) s ≡ false
past_second part m [] h e l = absurd (omega arith)
past_second part m (x ∷ []) h e l = absurd (omega arith)
past_second part m (x ∷ y ∷ s) h e l =
    false_if_up_to (part ∷ m ∷ []) (x ∷ y ∷ s) (subst (λ (p : ℕ). IsUpTo (x ∷ y ∷ s) (p ∷ m ∷ [])) e (upto_by_rest x (y ∷ s) (m ∷ []) (upto_if_before (y ∷ s) (m ∷ []) (before_by_first y m s [] l))))

same_second : (part m : ℕ) (s : List ℕ) → length s ≡ 2 → place s 0 ≡ part → place s 1 ≡ m → comes_before (part ∷ m ∷ []) s ≡ false
same_second part m [] h e l = absurd (omega arith)
same_second part m (x ∷ []) h e l = absurd (omega arith)
same_second part m (x ∷ y ∷ []) h e l =
    false_if_up_to (part ∷ m ∷ []) (x ∷ y ∷ []) (subst (λ (p : ℕ). IsUpTo (x ∷ y ∷ []) (p ∷ m ∷ [])) e (subst (λ (n : ℕ). IsUpTo (x ∷ y ∷ []) (x ∷ n ∷ [])) l (upto_itself (x ∷ y ∷ []))))
same_second part m (x ∷ y ∷ z ∷ s) h e l = absurd (omega arith)

longer_second : (part m : ℕ) (s : List ℕ) → 3 ≤ length s → place s 0 ≡ part → place s 1 ≡ m → comes_before (part ∷ m ∷ []) s ≡ true
longer_second part m [] h e l = absurd (omega arith)
longer_second part m (x ∷ []) h e l = absurd (omega arith)
longer_second part m (x ∷ y ∷ []) h e l = absurd (omega arith)
longer_second part m (x ∷ y ∷ z ∷ s) h e l =
    true_if_before (part ∷ m ∷ []) (x ∷ y ∷ z ∷ s)
    (subst (λ (p : ℕ). IsBefore (p ∷ m ∷ []) (x ∷ y ∷ z ∷ s)) e (subst (λ (n : ℕ). IsBefore (x ∷ n ∷ []) (x ∷ y ∷ z ∷ s)) l (before_by_rest x (y ∷ []) (y ∷ z ∷ s) (before_by_rest y [] (z ∷ s) refl))))

-- ---- bounds

at_start : (part : ℕ) (s : List ℕ) (long : ℕ) → ((m : ℕ) → comes_before (part ∷ m ∷ []) s ≡ false) → IsBound part s long 1
at_start part s long past = record { from_one = omega arith; to_end = omega arith; before = λ m h l. absurd (omega arith); past = λ m h l. past m }

at_end : (part : ℕ) (s : List ℕ) (long : ℕ) → ((m : ℕ) → m ≤ long → comes_before (part ∷ m ∷ []) s ≡ true) → IsBound part s long (long + 1)
at_end part s long before = record { from_one = omega arith; to_end = omega arith; before = λ m h l. before m (omega arith); past = λ m h l. absurd (omega arith) }

pub bound_none : (part : ℕ) (s : List ℕ) (long : ℕ) → length s ≡ 0 → IsBound part s long 1
bound_none part s long h = at_start part s long (λ m. past_none part m s h)

pub bound_later : (part : ℕ) (s : List ℕ) (long : ℕ) → length s ≢ 0 → part < place s 0 → IsBound part s long (long + 1)
bound_later part s long h l = at_end part s long (λ m _. by_first part m s (omega arith) l)

pub bound_earlier : (part : ℕ) (s : List ℕ) (long : ℕ) → place s 0 < part → IsBound part s long 1
bound_earlier part s long h = at_start part s long (λ m. past_first part m s h)

pub bound_one : (part : ℕ) (s : List ℕ) (long : ℕ) → length s ≡ 1 → part ≤ place s 0 → place s 0 ≤ part → IsBound part s long 1
bound_one part s long h a b = let e : place s 0 ≡ part = omega arith in at_start part s long (λ m. past_one part m s h e)

pub bound_past : (part : ℕ) (s : List ℕ) (long : ℕ) → length s ≢ 0 → length s ≢ 1 → part ≤ place s 0 → place s 0 ≤ part → long < place s 1 → IsBound part s long (long + 1)
bound_past part s long h k a b l = let e : place s 0 ≡ part = omega arith in at_end part s long (λ m le. by_second part m s (omega arith) e (omega arith))

pub bound_two : (part : ℕ) (s : List ℕ) (long n : ℕ) → length s ≡ 2 → part ≤ place s 0 → place s 0 ≤ part → place s 1 ≤ long → place s 1 ≤ n → 1 ≤ n → n ≤ place s 1 + 1 → (place s 1 ≢ 0 → n ≡ place s 1) → IsBound part s long n
bound_two part s long n h a b l g one m same =
    let e : place s 0 ≡ part = omega arith in
    record {
      from_one = one;
      to_end = omega arith;
      before = λ k first less. let some : place s 1 ≢ 0 = (λ z. absurd (omega arith)) in let is = same some in by_second part k s (omega arith) e (omega arith);
      past = λ k from _. grind (arith, past_second part k s, same_second part k s);
    }

pub bound_three : (part : ℕ) (s : List ℕ) (long : ℕ) → length s ≢ 0 → length s ≢ 1 → length s ≢ 2 → part ≤ place s 0 → place s 0 ≤ part → place s 1 ≤ long → IsBound part s long (place s 1 + 1)
bound_three part s long h k j a b l =
    let e : place s 0 ≡ part = omega arith in
    record {
      from_one = omega arith;
      to_end = omega arith;
      before = λ m first less. grind (arith, by_second part m s, longer_second part m s);
      past = λ m from _. past_second part m s (omega arith) e (omega arith);
    }

pub ruleset bounded = (bound_none, bound_later, bound_earlier, bound_one, bound_past, bound_two, bound_three)

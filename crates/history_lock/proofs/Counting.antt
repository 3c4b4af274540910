-- How often numbers stand in what passes know.
use Rattle.std.proofs.Common.{◌≡◌, ◌≢◌, ℕ, zero, suc, ◌+◌, ◌≤◌, Bool, true, false, cond, List, [], ◌∷◌, ◌++◌, set, sym, refl, ap, ◌∙◌, arith, eq-eqb, ne_eqb}
use mathlib.Core.Logic.{dite}
use mathlib.Core.Option.{some, some-injective, some-ne-none}
use native.Mathlib.Decide.{ℕ_discrete}
use lib.ListN.{get_elem?}
use Rattle.history_lock.specs.declared.view.View.{View}
use Rattle.history_lock.specs.Passes.{same_number, times_ended, all_ended}
use Rattle.history_lock.specs.inside.Rule.{total, times_known}

module _ {V : Type 0} (f : V → ℕ) where
  pub total_set : (views : List V) (id : ℕ) (v w : V) → get_elem? views id ≡ some v → total f (set views id w) + f v ≡ total f views + f w
  total_set [] id v w e = absurd (some-ne-none v (sym e))
  total_set (x ∷ xs) zero v w e = let is : f x ≡ f v = ap f (some-injective x v e) in omega arith
  total_set (x ∷ xs) (suc id) v w e = let r = total_set xs id v w e in omega arith

  pub total_snoc : (views : List V) (w : V) → total f (views ++ w ∷ []) ≡ total f views + f w
  total_snoc [] w = omega arith
  total_snoc (x ∷ xs) w = let r = total_snoc xs w in omega arith

  pub total_at : (views : List V) (id : ℕ) (v : V) → get_elem? views id ≡ some v → f v ≤ total f views
  total_at [] id v e = absurd (some-ne-none v (sym e))
  total_at (x ∷ xs) zero v e = let is : f x ≡ f v = ap f (some-injective x v e) in omega arith
  total_at (x ∷ xs) (suc id) v e = let r = total_at xs id v e in omega arith

  pub total_two : (views : List V) (i j : ℕ) (v u : V) → j ≢ i → get_elem? views i ≡ some v → get_elem? views j ≡ some u → f v + f u ≤ total f views
  total_two [] i j v u other e k = absurd (some-ne-none v (sym e))
  total_two (x ∷ xs) zero zero v u other e k = absurd (other refl)
  total_two (x ∷ xs) zero (suc j) v u other e k = let is : f x ≡ f v = ap f (some-injective x v e) in let r = total_at xs j u k in omega arith
  total_two (x ∷ xs) (suc i) zero v u other e k = let is : f x ≡ f u = ap f (some-injective x u k) in let r = total_at xs i v e in omega arith
  total_two (x ∷ xs) (suc i) (suc j) v u other e k = let r = total_two xs i j v u (λ same. other (ap suc same)) e k in omega arith

  pub total_none : (views : List V) → ((j : ℕ) (u : V) → get_elem? views j ≡ some u → f u ≡ 0) → total f views ≡ 0
  total_none [] none = refl
  total_none (x ∷ xs) none = let here = none zero x refl in let r = total_none xs (λ j u e. none (suc j) u e) in omega arith

pub same_number-is : (m n : ℕ) → m ≡ n → same_number m n ≡ 1
same_number-is m n e = ap (λ (b : Bool). cond b 1 0) (eq-eqb m n e)

pub same_number-other : (m n : ℕ) → m ≢ n → same_number m n ≡ 0
same_number-other m n ne = ap (λ (b : Bool). cond b 1 0) (ne_eqb m n ne)

pub other_from_none : (m n : ℕ) → same_number m n ≡ 0 → n ≢ m
other_from_none m n none e = let one = same_number-is m n (sym e) in absurd (omega arith)

module _ {E : Type 0} where
  pub times_ended-append : (n : ℕ) (xs ys : List (ℕ × List E)) → times_ended n (xs ++ ys) ≡ times_ended n xs + times_ended n ys
  times_ended-append n [] ys = omega arith
  times_ended-append n (x ∷ xs) ys = let r = times_ended-append n xs ys in omega arith

  pub times_all_ended : (n : ℕ) (v : View E) → n ≢ 0 → times_ended n (all_ended v) ≡ same_number v.number n + times_ended n v.ended
  times_all_ended n v some_number = dite (ℕ_discrete v.number 0)
      (λ none.
      let is : times_ended n (all_ended v) ≡ times_ended n v.ended = ap (λ (b : Bool). times_ended n (cond b v.ended ((v.number, v.mine) ∷ v.ended))) (eq-eqb v.number 0 none) in
      let zero_here = same_number-other v.number n (λ e. some_number (sym e ∙ none)) in
      omega arith)
      (λ one.
      let is : times_ended n (all_ended v) ≡ same_number v.number n + times_ended n v.ended = ap (λ (b : Bool). times_ended n (cond b v.ended ((v.number, v.mine) ∷ v.ended))) (ne_eqb v.number 0 one) in is)

  pub times_known-live : (n : ℕ) (v : View E) → v.spent ≡ false → times_known n v ≡ same_number v.number n + times_ended n v.ended
  times_known-live n v live = ap (λ (b : Bool). cond b 0 (same_number v.number n + times_ended n v.ended)) live

  pub times_known-spent : (n : ℕ) (v : View E) → v.spent ≡ true → times_known n v ≡ 0
  times_known-spent n v gone = ap (λ (b : Bool). cond b 0 (same_number v.number n + times_ended n v.ended)) gone

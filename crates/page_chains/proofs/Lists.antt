-- Numbers that come once, and fronts of lists.
use Rattle.std.proofs.Common.{◌≡◌, ℕ, zero, suc, ◌-◌, ◌≤◌, Bool, true, false, ◌||◌, List, [], ◌∷◌, ◌++◌, length, take, nat_eq, refl, sym, ◌∙◌, ap, subst, arith, eq-eqb, ne_eqb}
use Rattle.std.proofs.lemmas.Bool.{both_ways, eqb-false, or_left, or_right, or_parts, or_from}
use Rattle.page_chains.specs.Chains.{is_in, AreDistinct}

pub none_left : (l : List ℕ) → length l ≤ 0 → l ≡ []
none_left [] e = refl
none_left (x ∷ xs) e = absurd (omega (arith, e))

pub take-append : (n : ℕ) (a b : List ℕ) → take n (a ++ b) ≡ take n a ++ take (n - length a) b
take-append zero a b = sym (ap (λ (k : ℕ). take k b) none)
  where
    none : 0 - length a ≡ 0
    none = omega arith
take-append (suc n) [] b = ap (λ (k : ℕ). take k b) all
  where
    all : suc n ≡ suc n - 0
    all = omega arith
take-append (suc n) (x ∷ a) b = ap (λ (l : List ℕ). x ∷ l) (take-append n a b ∙ ap (λ (k : ℕ). take n a ++ take k b) (omega arith))

pub in_itself : (n : ℕ) (ns : List ℕ) → is_in n (n ∷ ns) ≡ true
in_itself n ns = or_left (nat_eq n n) (is_in n ns) (eq-eqb n n refl)

pub in_more : (k n : ℕ) (ns : List ℕ) → is_in k ns ≡ true → is_in k (n ∷ ns) ≡ true
in_more k n ns e = or_right (nat_eq k n) (is_in k ns) e

pub in_append : (k : ℕ) (a b : List ℕ) → is_in k (a ++ b) ≡ (is_in k a || is_in k b)
in_append k [] b = refl
in_append k (n ∷ a) b = ap (λ (t : Bool). nat_eq k n || t) (in_append k a b) ∙ regroup (nat_eq k n) (is_in k a) (is_in k b)
  where
    regroup : (t x y : Bool) → (t || (x || y)) ≡ ((t || x) || y)
    regroup true x y = refl
    regroup false x y = refl

pub in_front : (k : ℕ) (a b : List ℕ) → is_in k a ≡ true → is_in k (a ++ b) ≡ true
in_front k a b e = in_append k a b ∙ or_left (is_in k a) (is_in k b) e

pub in_back : (k : ℕ) (a b : List ℕ) → is_in k b ≡ true → is_in k (a ++ b) ≡ true
in_back k a b e = in_append k a b ∙ or_right (is_in k a) (is_in k b) e

-- one more number that was not there
pub distinct_push : (a : List ℕ) (n : ℕ) → AreDistinct a → is_in n a ≡ false → AreDistinct (a ++ n ∷ [])
distinct_push [] n are fresh = (refl, tt)
distinct_push (m ∷ a) n are fresh =
    let parts = or_parts (nat_eq n m) (is_in n a) fresh in (
      in_append m a (n ∷ []) ∙ or_from (is_in m a) (is_in m (n ∷ [])) are.0 (or_from (nat_eq m n) false (ne_eqb m n (λ e. eqb-false n m parts.0 (sym e))) refl),
      distinct_push a n are.1 parts.1,
    )

-- a number behind others is none of them
pub distinct_fresh : (a b : List ℕ) (n : ℕ) → AreDistinct (a ++ n ∷ b) → is_in n a ≡ false
distinct_fresh [] b n are = refl
distinct_fresh (m ∷ a) b n are =
    or_from (nat_eq n m) (is_in n a)
    (ne_eqb n m (λ e. both_ways (is_in m (a ++ n ∷ b)) are.0 (subst (λ (k : ℕ). is_in k (a ++ n ∷ b) ≡ true) e (in_back n a (n ∷ b) (in_itself n b)))))
    (distinct_fresh a b n are.1)

-- The numbers that a set has, as a list.
use Rattle.std.proofs.Common.{◌≡◌, ◌⊎◌, inl, inr, ℕ, Bool, true, false, cond, not, ◌||◌, List, [], ◌∷◌, Less, Equal, Greater, nat_eq, nat_lt, refl, sym, ◌∙◌, ap, ap₂, arith, eq-eqb, ne_eqb, ltb-true}
use Rattle.std.proofs.lemmas.Bool.{cases_eq}
use Rattle.std.specs.List.{list_any}
use Rattle.std.specs.Ordering.{nat_cmp, is_eq}
use Rattle.std.specs.BTreeMap.{is_at}
use Rattle.page_chains.specs.Chains.{is_in}
use Rattle.page_chains.specs.inside.Walks.{HasOneMore}

by_tests : (less equal : Bool) → (less ≡ true → equal ≡ false) → is_eq (cond less Less (cond equal Equal Greater)) ≡ equal
by_tests true equal apart = sym (apart refl)
by_tests false true apart = refl
by_tests false false apart = refl

at_is : (k n : ℕ) → is_at (nat_cmp k) n ≡ nat_eq k n
at_is k n = by_tests (nat_lt k n) (nat_eq k n) (λ less. ne_eqb k n (λ same. let lt = ltb-true k n less in absurd (omega (arith, lt, same))))

has_in : (k : ℕ) (keys : List ℕ) → list_any (is_at (nat_cmp k)) keys ≡ is_in k keys
has_in k [] = refl
has_in k (n ∷ ns) = ap₂ (λ (s t : Bool). s || t) (at_is k n) (has_in k ns)

pub fresh_is : (number : ℕ) (keys : List ℕ) (fresh : Bool) → fresh ≡ not (list_any (is_at (nat_cmp number)) keys) → is_in number keys ≡ not fresh
fresh_is number keys fresh is = sym (has_in number keys) ∙ twice (list_any (is_at (nat_cmp number)) keys) ∙ ap not (sym is)
  where
    twice : (t : Bool) → t ≡ not (not t)
    twice true = refl
    twice false = refl

turned : (k n : ℕ) → nat_eq k n ≡ nat_eq n k
turned k n = by_case (cases_eq k n)
  where
    by_case : (k ≡ n) ⊎ (k ≡ n → ⊥) → nat_eq k n ≡ nat_eq n k
    by_case (inl same) = eq-eqb k n same ∙ sym (eq-eqb n k (sym same))
    by_case (inr apart) = ne_eqb k n apart ∙ sym (ne_eqb n k (λ same. apart (sym same)))

either : (t x : Bool) → cond t true x ≡ (t || x)
either true x = refl
either false x = refl

pub one_more : (number : ℕ) (old new : List ℕ) → ((k : ℕ) → list_any (is_at (nat_cmp k)) new ≡ cond (is_at (nat_cmp number) k) true (list_any (is_at (nat_cmp k)) old)) → HasOneMore number old new
one_more number old new updates k =
    sym (has_in k new) ∙ updates k
    ∙ ap₂ (λ (t x : Bool). cond t true x) (at_is number k ∙ turned number k) (has_in k old)
    ∙ either (nat_eq k number) (is_in k old)

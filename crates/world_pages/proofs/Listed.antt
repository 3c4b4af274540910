-- Lists of addresses that ascend, and what is among them.
use Rattle.std.proofs.Common.{◌≡◌, ◌∙◌, ℕ, zero, suc, ◌+◌, ◌<◌, ◌||◌, Bool, true, false, List, [], ◌∷◌, ◌++◌, length, map, refl, sym, ap, subst, arith, inl, inr, true≢false, Less}
use Rattle.std.specs.Prelude.{IsPermutation}
use Rattle.std.specs.List.{All, Contains, list_any, flat_map, AllByRecursion}
use Rattle.std.specs.List.Sorted.{IsStrictlySortedBy}
use Rattle.std.specs.Ordering.{nat_cmp}
use Rattle.std.specs.BTreeMap.{is_at}
use Rattle.std.specs.Cmp.Lexicographic.{slice_cmp, nat_list_cmp_total, texts_ties, bytes_decides}
use Rattle.std.proofs.lemmas.Bool.{or_cases, or_left, or_right}
use Rattle.std.proofs.lemmas.List.Elements.{Contains-append_right}
use Rattle.std.proofs.lemmas.List.Folds.{list_any_at, list_any-append}
use Rattle.std.proofs.lemmas.Map.Lookups.{btree_set_from_contains}
use Rattle.tumbler.proofs.Order.{same_if_tied}
use Rattle.world_rules.specs.World.{is_same}
use Rattle.world_rules.specs.Laws.{numbers_from}
use Rattle.tree_world.proofs.Lists.{any_alike}

-- the addresses ascend, each once
abbrev pub Rise : List (List ℕ) → Type 0
Rise addresses = IsStrictlySortedBy (slice_cmp nat_cmp) addresses

-- the address is among these
abbrev pub has : List (List ℕ) → List ℕ → Bool
has addresses a = list_any (λ x. is_same x a) addresses

-- ---- two tests that say the same

pub both_ways : (p q : Bool) → (p ≡ true → q ≡ true) → (q ≡ true → p ≡ true) → p ≡ q
both_ways true q to back = sym (to refl)
both_ways false true to back = back refl
both_ways false false to back = refl

same_back : (a b : List ℕ) → is_same a b ≡ is_same b a
same_back a b = both_ways (is_same a b) (is_same b a) (λ e. (bytes_decides b a).1 (sym ((bytes_decides a b).0 e))) (λ e. (bytes_decides a b).1 (sym ((bytes_decides b a).0 e)))

-- ---- lists that ascend and have the same

among_has : (q : List ℕ) (xs : List (List ℕ)) → list_any (is_at (slice_cmp nat_cmp q)) xs ≡ has xs q
among_has q xs = any_alike (is_at (slice_cmp nat_cmp q)) (λ x. is_same x q) xs (λ k d lt. sym (texts_ties q _) ∙ same_back q _)

pub same_lists : (xs ys : List (List ℕ)) → Rise xs → Rise ys → ((a : List ℕ) → has xs a ≡ has ys a) → xs ≡ ys
same_lists xs ys up up' same =
    btree_set_from_contains nat_list_cmp_total (record { keys = xs }) (record { keys = ys }) up up' (λ q. among_has q xs ∙ same q ∙ sym (among_has q ys)) same_if_tied

-- ---- an element

pub contains_has : (xs : List (List ℕ)) (a : List ℕ) → has xs a ≡ true → Contains xs a
contains_has [] a e = absurd (true≢false (sym e))
contains_has (x ∷ xs) a e = elim (or_cases (is_same x a) (has xs a) e) [
  | inl here ↦ (0, omega arith, (bytes_decides x a).0 here)
  | inr later ↦ Contains-append_right (x ∷ []) xs a (contains_has xs a later)
]

-- one of the lists that an element gives has it
pub any_flat : {X Y : Type 0} (p : Y → Bool) (f : X → List Y) (xs : List X) → list_any p (flat_map f xs) ≡ list_any (λ x. list_any p (f x)) xs
any_flat p f [] = refl
any_flat p f (x ∷ xs) = list_any-append p (f x) (flat_map f xs) ∙ ap (λ (b : Bool). list_any p (f x) || b) (any_flat p f xs)

-- ---- numbers in a row

module _ (f : ℕ → List ℕ) (up : (m n : ℕ) → m < n → slice_cmp nat_cmp (f m) (f n) ≡ Less) where
  number_behind : (m n k : ℕ) → m < n → AllByRecursion (λ y. slice_cmp nat_cmp (f m) y ≡ Less) (map f (numbers_from n k))
  number_behind m n zero lt = tt
  number_behind m n (suc k) lt = (up m n lt, number_behind m (n + 1) k (omega (arith, lt)))

  pub numbers_rise : (n k : ℕ) → Rise (map f (numbers_from n k))
  unfolding IsStrictlySortedBy
  numbers_rise n zero = tt
  numbers_rise n (suc k) = (number_behind n (n + 1) k (omega arith), numbers_rise (n + 1) k)

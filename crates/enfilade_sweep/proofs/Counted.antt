-- How many nodes are reached: the test finds those that are, and marks count them.
use Rattle.std.proofs.Common.{◌≡◌, ◌∙◌, inl, inr, ℕ, zero, suc, ◌+◌, ◌<◌, ◌≤◌, ◌==◌, ◌&&◌, Bool, true, false, cond, List, [], ◌∷◌, length, map, get_or, ap, subst, refl, arith}
use Rattle.std.specs.Prelude.{◌↔◌, All, count_by}
use Rattle.std.specs.List.{Contains, list_any, range_with_len}
use Rattle.std.proofs.lemmas.List.{get_or_past, take_all}
use Rattle.std.proofs.lemmas.List.Elements.{All-nil, All-head, All-tail, All-cons}
use Rattle.std.proofs.lemmas.List.Folds.{list_any_at, Any-from_list_any, fold-map}
use Rattle.std.proofs.lemmas.List.FromFn.{length-range_with_len, get_or-range_with_len, fill_by_all}
use Rattle.std.proofs.lemmas.List.Sums.{sum_by-cons, count_by-le-length}
use Rattle.std.proofs.lemmas.Bool.{cases_lt, eqb-true, eq-eqb, or_cases, or_left, or_right, and_parts, and_from}
use Rattle.std.proofs.lemmas.Bool.Decides.{same_from_decides}
use Rattle.enfilade_core.specs.Rows.{Shape, Rows, node_at}
use Rattle.enfilade_core.specs.NewNumbers.{under, is_marked, rank}
use Rattle.enfilade_sweep.specs.Sweep.{Reached, is_root, hangs, AllReached, is_among, is_reached_in, is_reached, reached_count, unreached_count}

-- ---- numbers in lists

number_test : (xs : List ℕ) (k : ℕ) → Contains xs k → is_among xs k ≡ true
number_test xs k c = list_any_at (λ j. j == k) xs c.0 k c.1 (eq-eqb (get_or xs c.0 k) k c.2)

number_there : (xs : List ℕ) (k : ℕ) → is_among xs k ≡ true → Contains xs k
number_there xs k h = let a = Any-from_list_any (λ j. j == k) xs h in subst (Contains xs) (eqb-true a.1 k a.4) (a.0, a.2, a.3)

-- ---- counts of a test

count_all : (p : ℕ → Bool) (xs : List ℕ) → All (λ x. p x ≡ true) xs → count_by p xs ≡ length xs
count_all p [] all = refl
count_all p (x ∷ xs) all =
    let rest = count_all p xs (All-tail (λ y. p y ≡ true) x xs all) in
    let here = All-head (λ y. p y ≡ true) x xs all in
    sum_by-cons (λ y. cond (p y) 1 0) x xs ∙ ap (λ b. cond b 1 0 + count_by p xs) here ∙ omega (arith, rest)

all_count : (p : ℕ → Bool) (xs : List ℕ) → length xs ≤ count_by p xs → All (λ x. p x ≡ true) xs
all_count p [] le = All-nil (λ x. p x ≡ true)
all_count p (x ∷ xs) le = by (p x) refl (λ few. all_count p xs few)
  where
    by : (b : Bool) → p x ≡ b → (length xs ≤ count_by p xs → All (λ y. p y ≡ true) xs) → All (λ y. p y ≡ true) (x ∷ xs)
    by true here rest = All-cons (λ y. p y ≡ true) x xs here (rest (omega (arith, le, sum_by-cons (λ y. cond (p y) 1 0) x xs, ap (λ b. cond b 1 0 + count_by p xs) here)))
    by false here rest = absurd (omega (arith, le, count_by-le-length p xs, sum_by-cons (λ y. cond (p y) 1 0) x xs, ap (λ b. cond b 1 0 + count_by p xs) here))

-- ---- the test

module _ {L : Type 0} (nodes : List (Shape L)) (roots : List ℕ) where
  node_there : (j k : ℕ) → Contains (under (node_at nodes j)) k → j < length nodes
  node_there j k c = elim (cases_lt j (length nodes)) [
    | inl lt ↦ lt
    | inr ge ↦ absurd (no_number k (subst (λ (node : Shape L). Contains (under node) k) (get_or_past nodes j (Rows []) ge) c))
  ]
    where
      no_number : (i : ℕ) → Contains [] i → ⊥
      no_number i none = omega (arith, none.1)

  -- what is found in some steps is reached
  sound : (steps k : ℕ) → is_reached_in nodes roots steps k ≡ true → Reached nodes roots k
  unfolding is_reached_in
  sound zero k h = is_root (number_there roots k h)
  sound (suc steps) k h =
      let test : ℕ → Bool = λ j. is_reached_in nodes roots steps j && is_among (under (node_at nodes j)) k in
      elim (or_cases (is_among roots k) (list_any test (range_with_len 0 (length nodes))) h) [
        | inl root ↦ is_root (number_there roots k root)
        | inr below ↦
            let a = Any-from_list_any test (range_with_len 0 (length nodes)) below in
            let both = and_parts (is_reached_in nodes roots steps a.1) (is_among (under (node_at nodes a.1)) k) a.4 in
            hangs (sound steps a.1 both.0) (number_there (under (node_at nodes a.1)) k both.1)
      ]

  root_found : (steps k : ℕ) → Contains roots k → is_reached_in nodes roots steps k ≡ true
  unfolding is_reached_in
  root_found zero k c = number_test roots k c
  root_found (suc steps) k c = or_left (is_among roots k) (list_any (λ j. is_reached_in nodes roots steps j && is_among (under (node_at nodes j)) k) (range_with_len 0 (length nodes))) (number_test roots k c)

  below_found : (steps j k : ℕ) → j < length nodes → is_reached_in nodes roots steps j ≡ true → Contains (under (node_at nodes j)) k → is_reached_in nodes roots (suc steps) k ≡ true
  unfolding is_reached_in
  below_found steps j k lt found c =
      let test : ℕ → Bool = λ i. is_reached_in nodes roots steps i && is_among (under (node_at nodes i)) k in
      let range = range_with_len 0 (length nodes) in
      let at : get_or range j 0 ≡ j = omega (arith, get_or-range_with_len 0 (length nodes) j 0 lt) in
      or_right (is_among roots k) (list_any test range)
      (list_any_at test range j 0 (omega (arith, lt, length-range_with_len 0 (length nodes))) (ap test at ∙ and_from (is_reached_in nodes roots steps j) (is_among (under (node_at nodes j)) k) found (number_test (under (node_at nodes j)) k c)))

  module _ (falls : (j k : ℕ) → j < length nodes → Contains (under (node_at nodes j)) k → k < j) where
    -- what is reached is found: each step leads to a lesser number
    complete : (steps k : ℕ) → length nodes ≤ suc (steps + k) → Reached nodes roots k → is_reached_in nodes roots steps k ≡ true
    complete steps k le (is_root c) = root_found steps k c
    complete zero k le (hangs {j = j} r c) = let there = node_there j k c in let less = falls j k there c in absurd (omega (arith, le, there, less))
    complete (suc steps) k le (hangs {j = j} r c) = let there = node_there j k c in let less = falls j k there c in below_found steps j k there (complete steps j (omega (arith, le, less)) r) c

    pub reached_exactly : (k : ℕ) → (is_reached nodes roots k ≡ true) ↔ Reached nodes roots k
    reached_exactly k = (sound (length nodes) k, complete (length nodes) k (omega arith))

    pub none_unreached : AllReached nodes roots → unreached_count nodes roots ≡ 0
    unfolding unreached_count reached_count
    none_unreached all =
        let range = range_with_len 0 (length nodes) in
        let long = length-range_with_len 0 (length nodes) in
        let count = count_all (is_reached nodes roots) range (λ i d lt.
        let at = get_or-range_with_len 0 (length nodes) i d (omega (arith, lt, long)) in
        complete (length nodes) (get_or range i d) (omega arith) (all (get_or range i d) (omega (arith, lt, long, at)))) in
        omega (arith, count, long)

    -- marks of what is reached are as many
    pub marked_count : (marks : List Bool) → length marks ≡ length nodes → ((k : ℕ) → is_marked marks k ≡ true → Reached nodes roots k) → ((k : ℕ) → Reached nodes roots k → is_marked marks k ≡ true) → rank marks (length nodes) ≡ reached_count nodes roots
    unfolding reached_count
    marked_count marks long from to =
        let same : (k : ℕ) → k < length nodes → get_or marks k false ≡ is_reached nodes roots k = λ k lt. same_from_decides (is_marked marks k) (is_reached nodes roots k) (from k, to k) (sound (length nodes) k, complete (length nodes) k (omega arith)) in
        let all : marks ≡ map (is_reached nodes roots) (range_with_len 0 (length nodes)) = fill_by_all (is_reached nodes roots) marks (length nodes) false long same in
        ap (count_by (λ (mark : Bool). mark)) (take_all (length nodes) marks (omega (arith, long)) ∙ all)
        ∙ fold-map (λ (a : ℕ) (mark : Bool). a + cond mark 1 0) (is_reached nodes roots) 0 (range_with_len 0 (length nodes))

  pub none_left : unreached_count nodes roots ≡ 0 → AllReached nodes roots
  unfolding unreached_count reached_count
  none_left none k lt =
      let range = range_with_len 0 (length nodes) in
      let long = length-range_with_len 0 (length nodes) in
      let all = all_count (is_reached nodes roots) range (omega (arith, none, long)) in
      let at : get_or range k 0 ≡ k = omega (arith, get_or-range_with_len 0 (length nodes) k 0 lt) in
      sound (length nodes) k (subst (λ (i : ℕ). is_reached nodes roots i ≡ true) at (all k 0 (omega (arith, lt, long))))

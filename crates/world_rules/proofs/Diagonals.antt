-- Diagonals as the code finds them.
use Rattle.std.proofs.Common.{◌≡◌, ℕ, suc, ◌+◌, ◌-◌, ◌<◌, ◌∙◌, ◌++◌, ◌∷◌, [], Bool, List, length, take, get_or, map, not, false, true, ap, refl, cond, append-nil, arith}
use Rattle.std.specs.Prelude.{filter, if◌then◌else◌}
use Rattle.std.specs.List.{list_any}
use Rattle.std.proofs.lemmas.Bool.Decides.{nat_tests}
use Rattle.std.proofs.lemmas.List.{map-append}
use Rattle.std.proofs.lemmas.List.Elements.{filter_more, All-push}
use Rattle.world_rules.specs.declared.pairs.Pair.{Pair}
use Rattle.world_rules.specs.Relation.{is_pair, has_pair, next_pair, is_start, reach, diagonal_from}

-- ---- where diagonals begin

any_same : {X : Type 0} (p q : X → Bool) → ((x : X) → p x ≡ q x) → (xs : List X) → list_any p xs ≡ list_any q xs
any_same p q same xs = λ i. list_any (λ x. same x i) xs

any_false : {X : Type 0} (xs : List X) → list_any (λ (x : X). false) xs ≡ false
any_false [] = refl
any_false (x ∷ xs) = any_false xs

-- at a first position nothing stands before
pub start_left : (pairs : List Pair) (pair : Pair) → pair.left ≡ 0 → is_start pairs pair ≡ true
start_left pairs pair first = ap not (any_same (λ before. is_pair pair (next_pair before)) (λ before. false) (λ before. grind (arith, nat_tests)) pairs ∙ any_false pairs)

pub start_right : (pairs : List Pair) (pair : Pair) → pair.right ≡ 0 → is_start pairs pair ≡ true
start_right pairs pair first = ap not (any_same (λ before. is_pair pair (next_pair before)) (λ before. false) (λ before. grind (arith, nat_tests)) pairs ∙ any_false pairs)

-- further on only one pair can
pub start_further : (pairs : List Pair) (pair : Pair) (left right : ℕ) → left + 1 ≡ pair.left → right + 1 ≡ pair.right → is_start pairs pair ≡ not (has_pair pairs (record { left = left; right = right }))
start_further pairs pair left right e f =
    ap not (any_same (λ before. is_pair pair (next_pair before)) (is_pair (record { left = left; right = right })) (λ before. grind (arith, nat_tests)) pairs)

pub ruleset start_steps = (start_left, start_right, start_further)

-- ---- how far they go

pub reach_on : (pairs : List Pair) (n i : ℕ) (pair : Pair) → i < n → has_pair pairs pair ≡ true → reach pairs (n - i) pair ≡ reach pairs (n - (i + 1)) (next_pair pair) + 1
reach_on pairs n i pair lt has = more (n - i) (n - (i + 1)) (omega arith)
  where
    more : (m k : ℕ) → m ≡ suc k → reach pairs m pair ≡ reach pairs k (next_pair pair) + 1
    more m k e = rw e (ap (λ (b : Bool). if b then reach pairs k (next_pair pair) + 1 else 0) has)

pub reach_end : (pairs : List Pair) (n i : ℕ) (pair : Pair) → i < n → has_pair pairs pair ≡ false → reach pairs (n - i) pair ≡ 0
reach_end pairs n i pair lt lacks = more (n - i) (n - (i + 1)) (omega arith)
  where
    more : (m k : ℕ) → m ≡ suc k → reach pairs m pair ≡ 0
    more m k e = rw e (ap (λ (b : Bool). if b then reach pairs k (next_pair pair) + 1 else 0) lacks)

pub reach_all : (pairs : List Pair) (n : ℕ) (pair : Pair) → reach pairs (n - n) pair ≡ 0
reach_all pairs n pair = none (n - n) (omega arith)
  where
    none : (m : ℕ) → m ≡ 0 → reach pairs m pair ≡ 0
    none m e = rw e refl

pub ruleset reach_steps = (reach_on, reach_end, reach_all)

-- ---- all of them

pub diagonals_yes : (pairs : List Pair) (i : ℕ) (d : Pair) → i < length pairs → is_start pairs (get_or pairs i d) ≡ true
    → map (diagonal_from pairs) (filter (is_start pairs) (take (i + 1) pairs)) ≡ map (diagonal_from pairs) (filter (is_start pairs) (take i pairs)) ++ diagonal_from pairs (get_or pairs i d) ∷ []
diagonals_yes pairs i d lt starts =
    ap (λ (ps : List Pair). map (diagonal_from pairs) ps) (filter_more (is_start pairs) pairs i d lt ∙ ap (λ (b : Bool). filter (is_start pairs) (take i pairs) ++ cond b (get_or pairs i d ∷ []) []) starts)
    ∙ map-append (diagonal_from pairs) (filter (is_start pairs) (take i pairs)) (get_or pairs i d ∷ [])

pub diagonals_no : (pairs : List Pair) (i : ℕ) (d : Pair) → i < length pairs → is_start pairs (get_or pairs i d) ≡ false
    → map (diagonal_from pairs) (filter (is_start pairs) (take (i + 1) pairs)) ≡ map (diagonal_from pairs) (filter (is_start pairs) (take i pairs))
diagonals_no pairs i d lt goes_on =
    ap (λ (ps : List Pair). map (diagonal_from pairs) ps)
    (filter_more (is_start pairs) pairs i d lt ∙ ap (λ (b : Bool). filter (is_start pairs) (take i pairs) ++ cond b (get_or pairs i d ∷ []) []) goes_on ∙ append-nil (filter (is_start pairs) (take i pairs)))

pub ruleset diagonal_steps = (diagonals_yes, diagonals_no, All-push)

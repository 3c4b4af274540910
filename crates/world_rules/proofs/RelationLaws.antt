-- The diagonals of any list of pairs.
use Rattle.std.proofs.Common.{◌≡◌, ℕ, zero, suc, ◌+◌, ◌-◌, ◌<◌, ◌≤◌, ◌∙◌, ◌==◌, ◌&&◌, ◌||◌, ◌∷◌, [], Bool, List, length, map, not, false, true, ap, sym, refl, subst, cond, arith, All, below_more}
use Rattle.std.specs.Prelude.{filter, if◌then◌else◌, Contains}
use Rattle.std.specs.List.{list_any, IsDistinct, AllByRecursion}
use Rattle.std.proofs.lemmas.Bool.{true≢false, or_right}
use Rattle.std.proofs.lemmas.Bool.Decides.{nat_tests}
use Rattle.std.proofs.lemmas.List.{length-map}
use Rattle.std.proofs.lemmas.List.Elements.{All-nil, All-cons}
use Rattle.std.proofs.lemmas.Map.Steps.{le-length_from_below}
use Rattle.std.proofs.lemmas.Map.Keys.{IsDistinct-head, IsDistinct-tail, IsDistinct-cons}
use Rattle.febe_data.specs.declared.run.Diagonal.{Diagonal}
use Rattle.world_rules.specs.declared.pairs.Pair.{Pair}
use Rattle.world_rules.specs.Relation.{is_pair, has_pair, next_pair, is_start, reach, diagonal_from, diagonals_of}
use Rattle.world_rules.specs.RelationLaws.{pair_at, IsOnDiagonal, is_diagonal, DiagonalsHavePairs, PairsAreOnDiagonals, PairsAreOnOneDiagonal, NothingStandsBefore, NothingStandsBehind, DiagonalsComeOnce}
use Rattle.world_rules.proofs.Specs.{list_any-map}
use Rattle.world_rules.proofs.Diagonals.{start_left, start_right}

-- ---- tests

any_weaker : {X : Type 0} (p q : X → Bool) → ((x : X) → p x ≡ true → q x ≡ true) → (xs : List X) → list_any p xs ≡ true → list_any q xs ≡ true
any_weaker p q weaker [] e = e
any_weaker p q weaker (x ∷ xs) e = step (p x) refl e (any_weaker p q weaker xs)
  where
    step : (b : Bool) → p x ≡ b → (b || list_any p xs) ≡ true → (list_any p xs ≡ true → list_any q xs ≡ true) → (q x || list_any q xs) ≡ true
    step true f g rest = ap (λ (b : Bool). b || list_any q xs) (weaker x f)
    step false f g rest = or_right (q x) (list_any q xs) (rest g)

-- ---- pairs that follow each other

-- the pair so many positions further on
abbrev step_on : Pair → ℕ → Pair
step_on pair steps = record { left = pair.left + steps; right = pair.right + steps }

pair_same : (a b : Pair) → a.left ≡ b.left → a.right ≡ b.right → a ≡ b
pair_same a b e f = λ i. record { left = e i; right = f i }

pair_decides : (a b : Pair) → is_pair a b ≡ true → a ≡ b
pair_decides a b e = pair_same a b (grind (arith, nat_tests)) (grind (arith, nat_tests))

at_zero : (pair : Pair) → step_on pair 0 ≡ pair
at_zero pair = pair_same (step_on pair 0) pair (omega arith) (omega arith)

at_next : (pair : Pair) (t : ℕ) → step_on (next_pair pair) t ≡ step_on pair (suc t)
at_next pair t = pair_same (step_on (next_pair pair) t) (step_on pair (suc t)) (omega arith) (omega arith)

-- as far as they reach, there are pairs
reach_has : (pairs : List Pair) (most : ℕ) (pair : Pair) (t : ℕ) → t < reach pairs most pair → has_pair pairs (step_on pair t) ≡ true
reach_has pairs zero pair t lt = absurd (omega arith)
reach_has pairs (suc most) pair t lt = step (has_pair pairs pair) refl t lt (reach_has pairs most (next_pair pair))
  where
    step : (b : Bool) → has_pair pairs pair ≡ b → (u : ℕ) → u < (if b then reach pairs most (next_pair pair) + 1 else 0)
        → ((v : ℕ) → v < reach pairs most (next_pair pair) → has_pair pairs (step_on (next_pair pair) v) ≡ true) → has_pair pairs (step_on pair u) ≡ true
    step false e u within rest = absurd (omega arith)
    step true e zero within rest = ap (λ (p : Pair). has_pair pairs p) (at_zero pair) ∙ e
    step true e (suc u) within rest = ap (λ (p : Pair). has_pair pairs p) (sym (at_next pair u)) ∙ rest u (omega arith)

-- where they end before they have to, there is none
reach_lacks : (pairs : List Pair) (most : ℕ) (pair : Pair) → reach pairs most pair < most → has_pair pairs (step_on pair (reach pairs most pair)) ≡ false
reach_lacks pairs zero pair lt = absurd (omega arith)
reach_lacks pairs (suc most) pair lt = step (has_pair pairs pair) refl lt (reach_lacks pairs most (next_pair pair))
  where
    step : (b : Bool) → has_pair pairs pair ≡ b → (if b then reach pairs most (next_pair pair) + 1 else 0) < suc most
        → (reach pairs most (next_pair pair) < most → has_pair pairs (step_on (next_pair pair) (reach pairs most (next_pair pair))) ≡ false)
        → has_pair pairs (step_on pair (if b then reach pairs most (next_pair pair) + 1 else 0)) ≡ false
    step false e within rest = ap (λ (p : Pair). has_pair pairs p) (at_zero pair) ∙ e
    step true e within rest =
        ap (λ (p : Pair). has_pair pairs p)
        (pair_same (step_on pair (reach pairs most (next_pair pair) + 1)) (step_on (next_pair pair) (reach pairs most (next_pair pair))) (omega arith) (omega arith))
        ∙ rest (omega arith)

-- as many pairs as follow each other are in the list
chain_fits : (pairs : List Pair) (n : ℕ) (pair : Pair) → ((t : ℕ) → t < n → has_pair pairs (step_on pair t) ≡ true) → n ≤ length pairs
chain_fits pairs n pair each =
    let below : n ≤ length (map (λ (b : Pair). b.left - pair.left) pairs) =
    le-length_from_below (map (λ (b : Pair). b.left - pair.left) pairs) n
    (λ q lt. list_any-map (λ (b : Pair). b.left - pair.left) (λ (x : ℕ). q == x) pairs ∙ any_weaker (is_pair (step_on pair q)) (λ (b : Pair). q == b.left - pair.left) (λ b e. grind (arith, nat_tests)) pairs (each q lt)) in
    rw length-map at below

-- so they always end where there is none
reach_ends : (pairs : List Pair) (pair : Pair) → has_pair pairs (step_on pair (reach pairs (length pairs) pair)) ≡ false
reach_ends pairs pair = go (has_pair pairs (step_on pair (reach pairs (length pairs) pair))) refl
  where
    go : (b : Bool) → has_pair pairs (step_on pair (reach pairs (length pairs) pair)) ≡ b → b ≡ false
    go false e = refl
    go true e =
        let fits : reach pairs (length pairs) pair + 1 ≤ length pairs =
        chain_fits pairs (reach pairs (length pairs) pair + 1) pair (below_more (λ t. has_pair pairs (step_on pair t) ≡ true) (reach pairs (length pairs) pair) (reach_has pairs (length pairs) pair) e) in
        sym e ∙ reach_lacks pairs (length pairs) pair (omega arith)

-- ---- where diagonals begin

-- what stands just before the first pair of one is none
not_before : (pairs : List Pair) (start before : Pair) → is_start pairs start ≡ true → next_pair before ≡ start → has_pair pairs before ≡ false
not_before pairs start before starts next = go (has_pair pairs before) refl
  where
    go : (b : Bool) → has_pair pairs before ≡ b → b ≡ false
    go false e = refl
    go true e =
        let left : before.left + 1 ≡ start.left = ap (λ (p : Pair). p.left) next in
        let right : before.right + 1 ≡ start.right = ap (λ (p : Pair). p.right) next in
        sym starts ∙ ap not (any_weaker (is_pair before) (λ (b : Pair). is_pair start (next_pair b)) (λ b f. grind (arith, nat_tests)) pairs e)

-- the diagonal begins at a pair that has none before it
record IsFrom (pairs : List Pair) (diagonal : Diagonal) : Type 0 where
  start : Pair
  starts : is_start pairs start ≡ true
  is_made : diagonal ≡ diagonal_from pairs start

each_is_from : (pairs ps : List Pair) → All (IsFrom pairs) (map (diagonal_from pairs) (filter (is_start pairs) ps))
each_is_from pairs [] = All-nil (IsFrom pairs)
each_is_from pairs (p ∷ ps) = step (is_start pairs p) refl (each_is_from pairs ps)
  where
    step : (b : Bool) → is_start pairs p ≡ b → All (IsFrom pairs) (map (diagonal_from pairs) (filter (is_start pairs) ps))
        → All (IsFrom pairs) (map (diagonal_from pairs) (cond b (p ∷ filter (is_start pairs) ps) (filter (is_start pairs) ps)))
    step false e rest = rest
    step true e rest = All-cons (IsFrom pairs) (diagonal_from pairs p) (map (diagonal_from pairs) (filter (is_start pairs) ps)) (record { start = p; starts = e; is_made = refl }) rest

is_from : (pairs : List Pair) (diagonal : Diagonal) → Contains (diagonals_of pairs) diagonal → IsFrom pairs diagonal
is_from pairs diagonal found = subst (IsFrom pairs) found.2 (each_is_from pairs pairs found.0 diagonal found.1)

-- what is on a diagonal, from its first pair on
within_reach : (pairs : List Pair) (diagonal : Diagonal) (pair start : Pair) → diagonal ≡ diagonal_from pairs start → (holds : IsOnDiagonal diagonal pair) → holds.steps < reach pairs (length pairs) start
within_reach pairs diagonal pair start e holds = let same : diagonal.length ≡ reach pairs (length pairs) start = ap (λ (d : Diagonal). d.length) e in omega (arith, holds.within)

steps_on : (pairs : List Pair) (diagonal : Diagonal) (pair start : Pair) → diagonal ≡ diagonal_from pairs start → (holds : IsOnDiagonal diagonal pair) → pair ≡ step_on start holds.steps
steps_on pairs diagonal pair start e holds = holds.is_here ∙ ap (λ (d : Diagonal). pair_at d holds.steps) e

-- ---- the laws

pub have_pairs : DiagonalsHavePairs
have_pairs pairs diagonal pair found holds =
    let from = is_from pairs diagonal found in
    ap (λ (p : Pair). has_pair pairs p) (steps_on pairs diagonal pair from.start from.is_made holds)
    ∙ reach_has pairs (length pairs) from.start holds.steps (within_reach pairs diagonal pair from.start from.is_made holds)

pub nothing_before : NothingStandsBefore
nothing_before pairs diagonal before found next =
    let from = is_from pairs diagonal found in
    not_before pairs from.start before from.starts (next ∙ ap (λ (d : Diagonal). pair_at d 0) from.is_made ∙ at_zero from.start)

pub nothing_behind : NothingStandsBehind
nothing_behind pairs diagonal found =
    let from = is_from pairs diagonal found in
    ap (λ (d : Diagonal). has_pair pairs (pair_at d d.length)) from.is_made ∙ reach_ends pairs from.start

-- of two diagonals through one pair neither begins later
not_later : (pairs : List Pair) (start other : Pair) (t u : ℕ) → is_start pairs start ≡ true → u < reach pairs (length pairs) other → step_on start t ≡ step_on other u → t < u → ⊥
not_later pairs start other t u starts within same lt =
    let left : start.left + t ≡ other.left + u = ap (λ (p : Pair). p.left) same in
    let right : start.right + t ≡ other.right + u = ap (λ (p : Pair). p.right) same in
    true≢false
    (sym (reach_has pairs (length pairs) other (u - t - 1) (omega arith))
    ∙ not_before pairs start (step_on other (u - t - 1)) starts (pair_same (next_pair (step_on other (u - t - 1))) start (omega arith) (omega arith)))

same_start : (pairs : List Pair) (start other : Pair) (t u : ℕ) → is_start pairs start ≡ true → is_start pairs other ≡ true → t < reach pairs (length pairs) start → u < reach pairs (length pairs) other
    → step_on start t ≡ step_on other u → start ≡ other
same_start pairs start other t u starts others within_start within_other same =
    let left : start.left + t ≡ other.left + u = ap (λ (p : Pair). p.left) same in
    let right : start.right + t ≡ other.right + u = ap (λ (p : Pair). p.right) same in
    let not_less : t < u → ⊥ = not_later pairs start other t u starts within_other same in
    let not_more : u < t → ⊥ = not_later pairs other start u t others within_start (sym same) in
    pair_same start other (omega arith) (omega arith)

pub on_one_diagonal : PairsAreOnOneDiagonal
on_one_diagonal pairs first second pair in_first in_second holds_first holds_second =
    let one = is_from pairs first in_first in
    let two = is_from pairs second in_second in
    one.is_made
    ∙ ap (diagonal_from pairs)
    (same_start pairs one.start two.start holds_first.steps holds_second.steps one.starts two.starts (within_reach pairs first pair one.start one.is_made holds_first) (within_reach pairs second pair two.start two.is_made holds_second)
    (sym (steps_on pairs first pair one.start one.is_made holds_first) ∙ steps_on pairs second pair two.start two.is_made holds_second))
    ∙ sym two.is_made

-- ---- each pair is on one

-- there are pairs from the first of a diagonal up to this one
record IsReached (pairs : List Pair) (pair : Pair) : Type 0 where
  start : Pair
  starts : is_start pairs start ≡ true
  steps : ℕ
  is_here : pair ≡ step_on start steps
  each : (t : ℕ) → t < steps + 1 → has_pair pairs (step_on start t) ≡ true

one_further : (pairs : List Pair) (pair before : Pair) → IsReached pairs before → has_pair pairs pair ≡ true → pair.left ≡ before.left + 1 → pair.right ≡ before.right + 1 → IsReached pairs pair
one_further pairs pair before reached has left right = record {
  start = reached.start;
  starts = reached.starts;
  steps = reached.steps + 1;
  is_here = here;
  each = below_more (λ t. has_pair pairs (step_on reached.start t) ≡ true) (reached.steps + 1) reached.each (ap (λ (p : Pair). has_pair pairs p) (sym here) ∙ has);
}
  where
    here : pair ≡ step_on reached.start (reached.steps + 1)
    here =
        let before_left : before.left ≡ reached.start.left + reached.steps = ap (λ (p : Pair). p.left) reached.is_here in
        let before_right : before.right ≡ reached.start.right + reached.steps = ap (λ (p : Pair). p.right) reached.is_here in
        pair_same pair (step_on reached.start (reached.steps + 1)) (omega arith) (omega arith)

go_back : (pairs : List Pair) (k : ℕ) (pair : Pair) → pair.left < k → has_pair pairs pair ≡ true → IsReached pairs pair
go_back pairs zero pair lt has = absurd (omega arith)
go_back pairs (suc k) pair lt has = go (is_start pairs pair) refl (go_back pairs k)
  where
    go : (b : Bool) → is_start pairs pair ≡ b → ((p : Pair) → p.left < k → has_pair pairs p ≡ true → IsReached pairs p) → IsReached pairs pair
    go true e back = record {
      start = pair;
      starts = e;
      steps = 0;
      is_here = sym (at_zero pair);
      each = λ t first. ap (λ (p : Pair). has_pair pairs p) (pair_same (step_on pair t) pair (omega arith) (omega arith)) ∙ has;
    }
    go false e back =
        let left : pair.left ≡ 0 → ⊥ = λ z. true≢false (sym (start_left pairs pair z) ∙ e) in
        let right : pair.right ≡ 0 → ⊥ = λ z. true≢false (sym (start_right pairs pair z) ∙ e) in
        let before : Pair = record { left = pair.left - 1; right = pair.right - 1 } in
        let has_before : has_pair pairs before ≡ true = any_weaker (λ (b : Pair). is_pair pair (next_pair b)) (is_pair before) (λ b f. grind (arith, nat_tests)) pairs (not_false (list_any (λ (b : Pair). is_pair pair (next_pair b)) pairs) e) in
        let reached : IsReached pairs before = back before (omega arith) has_before in
        one_further pairs pair before reached has (omega arith) (omega arith)
      where
        not_false : (b : Bool) → not b ≡ false → b ≡ true
        not_false true f = refl
        not_false false f = absurd (true≢false f)

-- a pair of the list that has none before it begins a diagonal
there : {X : Type 0} (x q : X) (xs : List X) → Contains xs q → Contains (x ∷ xs) q
there x q xs found = (suc found.0, omega (arith, found.1), found.2)

begins : (pairs : List Pair) (start : Pair) → is_start pairs start ≡ true → (ps : List Pair) → has_pair ps start ≡ true → Contains (map (diagonal_from pairs) (filter (is_start pairs) ps)) (diagonal_from pairs start)
begins pairs start starts [] has = absurd (true≢false (sym has))
begins pairs start starts (p ∷ ps) has = step (is_pair start p) (is_start pairs p) refl refl has (begins pairs start starts ps)
  where
    step : (a b : Bool) → is_pair start p ≡ a → is_start pairs p ≡ b → (a || has_pair ps start) ≡ true
        → (has_pair ps start ≡ true → Contains (map (diagonal_from pairs) (filter (is_start pairs) ps)) (diagonal_from pairs start))
        → Contains (map (diagonal_from pairs) (cond b (p ∷ filter (is_start pairs) ps) (filter (is_start pairs) ps))) (diagonal_from pairs start)
    step true true e f h rest = (0, omega arith, ap (diagonal_from pairs) (sym (pair_decides start p e)))
    step true false e f h rest = absurd (true≢false (sym starts ∙ ap (λ (q : Pair). is_start pairs q) (pair_decides start p e) ∙ f))
    step false true e f h rest = there (diagonal_from pairs p) (diagonal_from pairs start) (map (diagonal_from pairs) (filter (is_start pairs) ps)) (rest h)
    step false false e f h rest = rest h

pub on_diagonals : PairsAreOnDiagonals
on_diagonals pairs pair has =
    let reached : IsReached pairs pair = go_back pairs (pair.left + 1) pair (omega arith) has in
    let short : reach pairs (length pairs) reached.start < reached.steps + 1 → ⊥ = λ lt. true≢false (sym (reached.each (reach pairs (length pairs) reached.start) lt) ∙ reach_ends pairs reached.start) in
    let first : has_pair pairs reached.start ≡ true = ap (λ (p : Pair). has_pair pairs p) (sym (at_zero reached.start)) ∙ reached.each 0 (omega arith) in
    record {
      diagonal = diagonal_from pairs reached.start;
      is_one = begins pairs reached.start reached.starts pairs first;
      is_on = record { steps = reached.steps; within = omega arith; is_here = reached.is_here };
    }

-- ---- each diagonal comes once

diagonals_apart : (pairs : List Pair) (p q : Pair) → is_pair p q ≡ false → is_diagonal (diagonal_from pairs p) (diagonal_from pairs q) ≡ false
diagonals_apart pairs p q e = go (p.left == q.left) (p.right == q.right) e
  where
    go : (a b : Bool) → (a && b) ≡ false → (a && b && reach pairs (length pairs) p == reach pairs (length pairs) q) ≡ false
    go true true f = absurd (true≢false f)
    go true false f = refl
    go false b f = refl

apart : (pairs : List Pair) (p : Pair) (ps : List Pair) → AllByRecursion (λ (q : Pair). is_pair p q ≡ false) ps
    → AllByRecursion (λ (d : Diagonal). is_diagonal (diagonal_from pairs p) d ≡ false) (map (diagonal_from pairs) (filter (is_start pairs) ps))
apart pairs p [] each = tt
apart pairs p (q ∷ ps) each = step (is_start pairs q) (apart pairs p ps each.1)
  where
    step : (b : Bool) → AllByRecursion (λ (d : Diagonal). is_diagonal (diagonal_from pairs p) d ≡ false) (map (diagonal_from pairs) (filter (is_start pairs) ps))
        → AllByRecursion (λ (d : Diagonal). is_diagonal (diagonal_from pairs p) d ≡ false) (map (diagonal_from pairs) (cond b (q ∷ filter (is_start pairs) ps) (filter (is_start pairs) ps)))
    step true rest = (diagonals_apart pairs p q each.0, rest)
    step false rest = rest

none_twice : IsDistinct is_diagonal []
unfolding IsDistinct
none_twice = tt

once : (pairs ps : List Pair) → IsDistinct is_pair ps → IsDistinct is_diagonal (map (diagonal_from pairs) (filter (is_start pairs) ps))
once pairs [] each = none_twice
once pairs (p ∷ ps) each = step (is_start pairs p) (once pairs ps (IsDistinct-tail is_pair p ps each))
  where
    step : (b : Bool) → IsDistinct is_diagonal (map (diagonal_from pairs) (filter (is_start pairs) ps))
        → IsDistinct is_diagonal (map (diagonal_from pairs) (cond b (p ∷ filter (is_start pairs) ps) (filter (is_start pairs) ps)))
    step true rest = IsDistinct-cons is_diagonal (diagonal_from pairs p) (map (diagonal_from pairs) (filter (is_start pairs) ps)) (apart pairs p ps (IsDistinct-head is_pair p ps each)) rest
    step false rest = rest

pub come_once : DiagonalsComeOnce
come_once pairs each = once pairs pairs each

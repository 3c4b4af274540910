-- Whether neighbours may be merged, one pair after another; and sums over what stands below.
use Rattle.std.proofs.Common.{◌≡◌, ℕ, zero, suc, ◌+◌, ◌-◌, ◌<◌, ◌≤◌, min, true, false, leb, List, [], ◌∷◌, length, get_or, take, refl, arith, ap, ◌∙◌, sym}
use Rattle.std.specs.List.{list_any, sum_by}
use Rattle.std.proofs.lemmas.Bool.{or_parts, or_from, or_left, or_right}
use Rattle.std.proofs.lemmas.List.{length-map, get_or-map, take_all}
use Rattle.enfilade_core.specs.declared.tree.Branch.{Branch}
use Rattle.enfilade_core.specs.declared.balance_state.BalanceState.{BalanceState}
use Rattle.enfilade_core.specs.Summary.{most_count}
use Rattle.std.proofs.lemmas.List.Sums.{sum_by_more}
use Rattle.std.proofs.lemmas.List.Folds.{list_any_more}
use Rattle.enfilade_core.specs.BalanceState.{has_merge, merge_up_to, no_balance_state, balance_states_below, kept_balance_state}

found_at : (xs : List BalanceState) (j : ℕ) (d : BalanceState) → suc j < length xs → leb ((get_or xs j d).children + (get_or xs (suc j) d).children) merge_up_to ≡ true → has_merge xs ≡ true
found_at [] j d lt e = absurd (omega arith)
found_at (a ∷ []) j d lt e = absurd (omega arith)
found_at (a ∷ b ∷ more) zero d lt e = or_left (leb (a.children + b.children) merge_up_to) (has_merge (b ∷ more)) e
found_at (a ∷ b ∷ more) (suc j) d lt e = or_right (leb (a.children + b.children) merge_up_to) (has_merge (b ∷ more)) (found_at (b ∷ more) j d (omega arith) e)

more_at : (xs : List BalanceState) (j : ℕ) (d : BalanceState) → suc j < length xs → has_merge (take (suc j) xs) ≡ false → leb ((get_or xs j d).children + (get_or xs (suc j) d).children) merge_up_to ≡ false → has_merge (take (suc (suc j)) xs) ≡ false
more_at [] j d lt h e = absurd (omega arith)
more_at (a ∷ []) j d lt h e = absurd (omega arith)
more_at (a ∷ b ∷ more) zero d lt h e = or_from (leb (a.children + b.children) merge_up_to) false e refl
more_at (a ∷ b ∷ more) (suc j) d lt h e =
    let parts = or_parts (leb (a.children + b.children) merge_up_to) (has_merge (b ∷ take j more)) h in
    or_from (leb (a.children + b.children) merge_up_to) (has_merge (b ∷ take (suc j) more)) parts.0 (more_at (b ∷ more) j d (omega arith) parts.1 e)

-- what is kept of the nodes of branches k - 1 and k
pub record Neighbours (told : List BalanceState) (branches : List Branch) (k : ℕ) (d e : Branch) (a b : BalanceState) : Type 0 where
  pub some : 1 ≤ k
  pub short : k < length branches
  pub first : a ≡ kept_balance_state (get_or told (get_or branches (k - 1) d).node.0 no_balance_state)
  pub second : b ≡ kept_balance_state (get_or told (get_or branches k e).node.0 no_balance_state)

children_at : (told : List BalanceState) (branches : List Branch) (i : ℕ) (d : Branch) (a : BalanceState) → i < length branches → a ≡ kept_balance_state (get_or told (get_or branches i d).node.0 no_balance_state) → a.children ≡ (get_or (balance_states_below told branches) i no_balance_state).children
children_at told branches i d a lt e = ap (λ (s : BalanceState). s.children) e ∙ ap (λ (s : BalanceState). s.children) (sym (get_or-map (λ (branch : Branch). get_or told branch.node.0 no_balance_state) branches i d no_balance_state lt))

test_at : (told : List BalanceState) (branches : List Branch) (k : ℕ) (d e : Branch) (a b : BalanceState) → Neighbours told branches k d e a b → leb (a.children + b.children) 6 ≡ leb ((get_or (balance_states_below told branches) (k - 1) no_balance_state).children + (get_or (balance_states_below told branches) k no_balance_state).children) merge_up_to
test_at told branches k d e a b n =
    ap (λ (x : ℕ). leb (x + b.children) 6) (children_at told branches (k - 1) d a (omega (arith, n.some, n.short)) n.first)
    ∙ ap (λ (x : ℕ). leb ((get_or (balance_states_below told branches) (k - 1) no_balance_state).children + x) 6) (children_at told branches k e b n.short n.second)

pub merge-found : (told : List BalanceState) (branches : List Branch) (k : ℕ) (d e : Branch) (a b : BalanceState) → Neighbours told branches k d e a b → leb (a.children + b.children) 6 ≡ true → has_merge (balance_states_below told branches) ≡ true
merge-found told branches zero d f a b n e = absurd (omega (arith, n.some))
merge-found told branches (suc j) d f a b n e =
    let at : suc j - 1 ≡ j = omega arith in
    found_at (balance_states_below told branches) j no_balance_state (omega (arith, n.short, length-map branches (λ (branch : Branch). get_or told branch.node.0 no_balance_state)))
    (ap (λ (i : ℕ). leb ((get_or (balance_states_below told branches) i no_balance_state).children + (get_or (balance_states_below told branches) (suc j) no_balance_state).children) merge_up_to) (sym at) ∙ sym (test_at told branches (suc j) d f a b n) ∙ e)

pub merge-more : (told : List BalanceState) (branches : List Branch) (k : ℕ) (d e : Branch) (a b : BalanceState) → Neighbours told branches k d e a b → leb (a.children + b.children) 6 ≡ false → has_merge (take k (balance_states_below told branches)) ≡ false → has_merge (take (k + 1) (balance_states_below told branches)) ≡ false
merge-more told branches zero d f a b n e h = absurd (omega (arith, n.some))
merge-more told branches (suc j) d f a b n e h =
    let at : suc j - 1 ≡ j = omega arith in
    let next : suc j + 1 ≡ suc (suc j) = omega arith in
    ap (λ (i : ℕ). has_merge (take i (balance_states_below told branches))) next
    ∙ more_at (balance_states_below told branches) j no_balance_state (omega (arith, n.short, length-map branches (λ (branch : Branch). get_or told branch.node.0 no_balance_state))) h
    (ap (λ (i : ℕ). leb ((get_or (balance_states_below told branches) i no_balance_state).children + (get_or (balance_states_below told branches) (suc j) no_balance_state).children) merge_up_to) (sym at) ∙ sym (test_at told branches (suc j) d f a b n) ∙ e)

pub merge-one : (xs : List BalanceState) → has_merge (take 1 xs) ≡ false
merge-one [] = refl
merge-one (a ∷ xs) = refl

pub merge-all : (told : List BalanceState) (branches : List Branch) (k : ℕ) → length branches ≤ k → has_merge (take k (balance_states_below told branches)) ≡ false → has_merge (balance_states_below told branches) ≡ false
merge-all told branches k le h = ap has_merge (sym (take_all k (balance_states_below told branches) (omega (arith, length-map branches (λ (branch : Branch). get_or told branch.node.0 no_balance_state))))) ∙ h

-- ---- what stands below, one branch after another

pub below-at : (told : List BalanceState) (branches : List Branch) (i : ℕ) (branch : Branch) (s : BalanceState) → i < length branches → branch ≡ get_or branches i branch → s ≡ kept_balance_state (get_or told branch.node.0 no_balance_state) → s ≡ kept_balance_state (get_or (balance_states_below told branches) i no_balance_state)
below-at told branches i branch s lt at is =
    is ∙ ap (λ (b : Branch). kept_balance_state (get_or told b.node.0 no_balance_state)) at ∙ ap kept_balance_state (sym (get_or-map (λ (b : Branch). get_or told b.node.0 no_balance_state) branches i branch no_balance_state lt))

pub length-below : (told : List BalanceState) (branches : List Branch) → length (balance_states_below told branches) ≡ length branches
length-below told branches = length-map branches (λ (branch : Branch). get_or told branch.node.0 no_balance_state)

pub debt-more : (xs : List BalanceState) (i : ℕ) (owed debt next : ℕ) (s : BalanceState) → i < length xs → s ≡ kept_balance_state (get_or xs i no_balance_state) → debt ≡ min (owed + sum_by (λ x. x.debt) (take i xs)) most_count → next ≡ min (debt + s.debt) most_count → next ≡ min (owed + sum_by (λ x. x.debt) (take (i + 1) xs)) most_count
debt-more xs i owed debt next s lt is so_far value =
    let more : sum_by (λ (x : BalanceState). x.debt) (take (i + 1) xs) ≡ sum_by (λ x. x.debt) (take i xs) + (get_or xs i no_balance_state).debt = sum_by_more (λ (x : BalanceState). x.debt) xs i no_balance_state lt in
    let here : s.debt ≡ min (get_or xs i no_balance_state).debt most_count = ap (λ (x : BalanceState). x.debt) is in
    omega (arith, more, here, so_far, value)

pub allows-more : (xs : List BalanceState) (i : ℕ) (s : BalanceState) → i < length xs → s ≡ kept_balance_state (get_or xs i no_balance_state) → list_any (λ x. x.allows) (take i xs) ≡ false → s.allows ≡ false → list_any (λ x. x.allows) (take (i + 1) xs) ≡ false
allows-more xs i s lt is h e =
    list_any_more (λ (x : BalanceState). x.allows) xs i no_balance_state lt ∙ or_from (list_any (λ (x : BalanceState). x.allows) (take i xs)) ((get_or xs i no_balance_state).allows) h (sym (ap (λ (x : BalanceState). x.allows) is) ∙ e)

pub allows-found : (xs : List BalanceState) (i : ℕ) (s : BalanceState) → i < length xs → s ≡ kept_balance_state (get_or xs i no_balance_state) → s.allows ≡ true → list_any (λ x. x.allows) xs ≡ true
allows-found [] i s lt is e = absurd (omega arith)
allows-found (x ∷ xs) zero s lt is e = or_left x.allows (list_any (λ y. y.allows) xs) (sym (ap (λ (y : BalanceState). y.allows) is) ∙ e)
allows-found (x ∷ xs) (suc i) s lt is e = or_right x.allows (list_any (λ y. y.allows) xs) (allows-found xs i s (omega arith) is e)

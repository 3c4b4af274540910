-- What nodes owe: as nodes are added, and with other children.
use Rattle.std.proofs.Common.{◌≡◌, ℕ, ◌+◌, ◌-◌, ◌<◌, List, [], ◌∷◌, ◌++◌, length, get_or, map, refl, arith, ap, ◌∙◌, sym, sum_by, eqb}
use Rattle.std.specs.List.{All}
use Rattle.std.proofs.lemmas.List.{length-map}
use Rattle.std.proofs.lemmas.List.Sums.{sum_by-cons}
use Rattle.std.proofs.lemmas.List.Elements.{All-head, All-tail}
use Rattle.enfilade_core.specs.declared.tree.Row.{Row}
use Rattle.enfilade_core.specs.declared.tree.Branch.{Branch}
use Rattle.enfilade_core.specs.declared.balance_state.BalanceState.{BalanceState}
use Rattle.enfilade_core.specs.Rows.{Shape, Rows, Branches, moved, node_at}
use Rattle.enfilade_core.specs.Axes.{Widths}
use Rattle.enfilade_core.specs.WellFormed.{IsWellFormedPart, AreWellFormed}
use Rattle.enfilade_core.specs.Exchange.{Grows, branch_at}
use Rattle.enfilade_core.specs.BalanceState.{no_balance_state, balance_states, balance_states_below, balance_state_in, balance_state_of, root_debt, has_lone_child}
use Rattle.enfilade_core.proofs.Tables.{table-later, table-said}
use Rattle.enfilade_core.proofs.Locals.{balance_state_local}
use Rattle.enfilade_core.proofs.Parts.{names_below}
use Rattle.enfilade_core.proofs.Stood.{of_branches, rows-stand}
use Rattle.enfilade_balance.specs.Path.{debt_below, own_debt, StandsAs}

-- ---- as nodes are added

pub balance_state-grown : {L : Type 0} (old new : List (Shape L)) (k : ℕ) → Grows old new → k < length old → balance_state_of new k ≡ balance_state_of old k
balance_state-grown {L} old new k g lt = ap (λ (ns : List (Shape L)). balance_state_of ns k) g.is ∙ table-later balance_state_in old g.more k no_balance_state lt

pub debt-grown : {L : Type 0} (w : Widths L) (old new : List (Shape L)) (branches : List Branch) → Grows old new → All (IsWellFormedPart w old) branches → debt_below (balance_states new) branches ≡ debt_below (balance_states old) branches
debt-grown w old new [] g h = refl
debt-grown w old new (branch ∷ branches) g h =
    let P = IsWellFormedPart w old in
    let owes : BalanceState → ℕ = λ s. s.debt in
    sum_by-cons owes (balance_state_of new branch.node.0) (balance_states_below (balance_states new) branches)
    ∙ ap (λ (s : BalanceState). s.debt + debt_below (balance_states new) branches) (balance_state-grown old new branch.node.0 g (All-head P branch branches h).branch.below)
    ∙ ap (λ (n : ℕ). (balance_state_of old branch.node.0).debt + n) (debt-grown w old new branches g (All-tail P branch branches h))
    ∙ sym (sum_by-cons owes (balance_state_of old branch.node.0) (balance_states_below (balance_states old) branches))

-- ---- one list behind another

pub debt-append : (told : List BalanceState) (branches more : List Branch) → debt_below told (branches ++ more) ≡ debt_below told branches + debt_below told more
debt-append told [] more = omega arith
debt-append told (branch ∷ branches) more =
    let owes : BalanceState → ℕ = λ s. s.debt in
    let here = get_or told branch.node.0 no_balance_state in
    let rest = debt-append told branches more in
    let one = sum_by-cons owes here (balance_states_below told (branches ++ more)) in
    let two = sum_by-cons owes here (balance_states_below told branches) in
    omega (arith, rest, one, two)

pub debt-one : (told : List BalanceState) (branch : Branch) → debt_below told (branch ∷ []) ≡ (get_or told branch.node.0 no_balance_state).debt
debt-one told branch = sum_by-cons (λ (s : BalanceState). s.debt) (get_or told branch.node.0 no_balance_state) [] ∙ omega arith

pub debt-two : (told : List BalanceState) (a b : Branch) → debt_below told (a ∷ b ∷ []) ≡ (get_or told a.node.0 no_balance_state).debt + (get_or told b.node.0 no_balance_state).debt
debt-two told a b = debt-append told (a ∷ []) (b ∷ []) ∙ ap (λ (n : ℕ). n + debt_below told (b ∷ [])) (debt-one told a) ∙ ap (λ (n : ℕ). (get_or told a.node.0 no_balance_state).debt + n) (debt-one told b)

-- ---- children that were moved

pub balance_state-said : {L : Type 0} (w : Widths L) (nodes : List (Shape L)) (k : ℕ) → AreWellFormed w nodes → k < length nodes → balance_state_of nodes k ≡ balance_state_in (balance_states nodes) (node_at nodes k)
balance_state-said w nodes k well_formed lt = table-said balance_state_in no_balance_state balance_state_local nodes k lt (names_below w nodes k well_formed lt)

pub bottom-stands : {L : Type 0} (w : Widths L) (nodes : List (Shape L)) (k : ℕ) (a b : List ℕ) (rows made : List (Row L)) → AreWellFormed w nodes → k < length nodes → node_at nodes k ≡ Rows rows → made ≡ map (moved a b) rows → StandsAs nodes k (Rows made)
bottom-stands {L} w nodes k a b rows made well_formed lt is value =
    let told = balance_states nodes in
    record {
      balance_state = rows-stand told (moved a b) rows made value ∙ sym (balance_state-said w nodes k well_formed lt ∙ ap (balance_state_in told) is);
      debt = ap (λ (n : ℕ). n - 12) (ap length value ∙ length-map rows (moved a b)) ∙ sym (ap (root_debt told) is);
      lone = sym (ap (has_lone_child {L = L}) is);
    }

moved-below : (told : List BalanceState) (a b : List ℕ) (branches : List Branch) → balance_states_below told (map (branch_at a b) branches) ≡ balance_states_below told branches
moved-below told a b [] = refl
moved-below told a b (branch ∷ branches) = ap (λ (ss : List BalanceState). get_or told branch.node.0 no_balance_state ∷ ss) (moved-below told a b branches)

pub inner-stands : {L : Type 0} (w : Widths L) (nodes : List (Shape L)) (k : ℕ) (a b : List ℕ) (branches made : List Branch) → AreWellFormed w nodes → k < length nodes → node_at nodes k ≡ Branches branches → made ≡ map (branch_at a b) branches → StandsAs nodes k (Branches made)
inner-stands {L} w nodes k a b branches made well_formed lt is value =
    let told = balance_states nodes in
    let same : balance_states_below told made ≡ balance_states_below told branches = ap (balance_states_below told) value ∙ moved-below told a b branches in
    let long : length made ≡ length branches = ap length value ∙ length-map branches (branch_at a b) in
    record {
      balance_state = ap (λ (n : ℕ). of_branches n (balance_states_below told made)) long ∙ ap (λ (ss : List BalanceState). of_branches (length branches) ss) same ∙ sym (balance_state-said w nodes k well_formed lt ∙ ap (balance_state_in told) is);
      debt = ap (λ (n : ℕ). own_debt n + debt_below told made) long ∙ ap (λ (ss : List BalanceState). own_debt (length branches) + sum_by (λ s. s.debt) ss) same ∙ sym (ap (root_debt told) is);
      lone = ap (λ (n : ℕ). eqb n 1) long ∙ sym (ap (has_lone_child {L = L}) is);
    }

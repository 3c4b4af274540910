-- One branch, or two neighbours, among those of a node, and others in their place.
use Rattle.std.proofs.Common.{◌≡◌, ℕ, ◌+◌, ◌-◌, ◌<◌, ◌≤◌, Bool, false, List, [], ◌∷◌, ◌++◌, length, get_or, take, drop, arith, ap, ◌∙◌, sym, subst, append-nil, Some}
use Rattle.std.proofs.lemmas.List.{drop_more}
use Rattle.enfilade_core.specs.declared.tree.Row.{Row}
use Rattle.enfilade_core.specs.declared.tree.Branch.{Branch}
use Rattle.enfilade_core.specs.declared.balance_state.BalanceState.{BalanceState}
use Rattle.enfilade_core.specs.Rows.{Shape, Branches, branch_rows, rows_table}
use Rattle.enfilade_core.specs.Axes.{Widths, InOrder}
use Rattle.enfilade_core.specs.WellFormed.{IsWellFormed, IsWellFormedPart}
use Rattle.enfilade_core.specs.Summary.{height_of}
use Rattle.enfilade_core.specs.Exchange.{Grows, BranchesHaveRows}
use Rattle.enfilade_core.specs.BalanceState.{no_balance_state, merge_up_to, balance_states, balance_states_below, balance_state_of}
use Rattle.enfilade_core.proofs.GoneThrough.{around, item-well_formed}
use Rattle.enfilade_core.proofs.Nodes.{node-parts}
use Rattle.enfilade_core.proofs.Orders.{InOrder-front, InOrder-back}
use Rattle.enfilade_core.proofs.ExchangeGrown.{flat_rows, branches-one}
use Rattle.enfilade_balance.specs.OneStep.{children_of, IsMerge, Steps, merge}
use Rattle.enfilade_balance.specs.Path.{debt_below, StepsFor, AreNeighbours, IsMerged, Replaces, AreStepped}
use Rattle.enfilade_balance.proofs.Owed.{debt-one, debt-two}
use Rattle.enfilade_balance.proofs.Found.{balance_state-item}
use Rattle.enfilade_balance.proofs.Replaced.{flat-parts, one_or_two-less, merged-less, in-coordinate}

-- a branch of a node, by its number
pub record IsAt (branches : List Branch) (k : ℕ) (branch : Branch) : Type 0 where
  pub there : k < length branches
  pub is : branch ≡ get_or branches k branch

pub part-at : {L : Type 0} (w : Widths L) (nodes : List (Shape L)) (branches : List Branch) (k : ℕ) (branch : Branch) → IsWellFormed w nodes (Branches branches) → IsAt branches k branch → IsWellFormedPart w nodes branch
part-at w nodes branches k branch well_formed at = item-well_formed (IsWellFormedPart w nodes) branches k branch at.there at.is (node-parts w nodes branches well_formed)

pub height-at : {L : Type 0} (w : Widths L) (nodes : List (Shape L)) (branches : List Branch) (k : ℕ) (branch : Branch) → (well_formed : IsWellFormed w nodes (Branches branches)) → IsAt branches k branch → height_of w nodes branch.node.0 ≡ well_formed.branches.height
height-at w nodes branches k branch well_formed at = item-well_formed (λ b. height_of w nodes b.node.0 ≡ well_formed.branches.height) branches k branch at.there at.is well_formed.branches.level

-- what is told of it is told at its number
pub told-at : (told : List BalanceState) (branches : List Branch) (k : ℕ) (branch : Branch) → IsAt branches k branch → get_or told branch.node.0 no_balance_state ≡ get_or (balance_states_below told branches) k no_balance_state
told-at told branches k branch at = ap (λ (b : Branch). get_or told b.node.0 no_balance_state) at.is ∙ balance_state-item told branches k branch at.there

-- ---- one branch

pub child-stepped : {L : Type 0} (w : Widths L) (old new : List (Shape L)) (branches made : List Branch) (k : ℕ) (branch : Branch) (others : List Branch) → IsWellFormed w old (Branches branches) → IsAt branches k branch → Grows old new
    → Replaces w new (height_of w old branch.node.0) (branch_rows (rows_table old) branch) (balance_state_of old branch.node.0).debt others → made ≡ take k branches ++ (others ++ drop (k + 1) branches) → AreStepped w old new branches made
child-stepped {L} w old new branches made k branch others well_formed at g by is =
    let rows : branch_rows (rows_table old) branch ≡ flat_rows old (branch ∷ []) = sym (append-nil (branch_rows (rows_table old) branch)) in
    let have = subst (λ (n : ℕ). BranchesHaveRows w new n (flat_rows old (branch ∷ [])) others) (height-at w old branches k branch well_formed at)
    (subst (λ (rs : List (Row L)). BranchesHaveRows w new (height_of w old branch.node.0) rs others) rows by.have) in
    let one = debt-one (balance_states old) branch in
    let owes : debt_below (balance_states new) others + length others ≤ debt_below (balance_states old) (branch ∷ []) = omega (arith, one, by.owe) in
    in-coordinate w old new branches made (take k branches) (branch ∷ []) (drop (k + 1) branches) others record { before = around branches k branch at.there at.is; after = is } g well_formed by.some have
    record { less = λ f x. one_or_two-less f x (length others) (debt_below (balance_states new) others) (debt_below (balance_states old) (branch ∷ [])) by.some by.few owes }

-- the step that it is
pub child-step : {L : Type 0} (w : Widths L) (nodes : List (Shape L)) (is_split : Bool) (branches made : List Branch) (k : ℕ) (branch : Branch) (others : List Branch) → IsAt branches k branch → StepsFor w nodes is_split branch others → made ≡ take k branches ++ (others ++ drop (k + 1) branches) → Steps w nodes is_split branches made
child-step w nodes is_split branches made k branch others at steps is =
    subst (λ (bs : List Branch). Steps w nodes is_split bs made) (sym (around branches k branch at.there at.is))
    (subst (λ (bs : List Branch). Steps w nodes is_split (take k branches ++ branch ∷ drop (k + 1) branches) bs) (sym is) (steps (take k branches) (drop (k + 1) branches)))

-- ---- two neighbours

-- the branches before number k and at it
pub record AreAt (branches : List Branch) (k : ℕ) (a b : Branch) : Type 0 where
  pub some : 1 ≤ k
  pub first : IsAt branches (k - 1) a
  pub second : IsAt branches k b

around-both : (branches : List Branch) (k : ℕ) (a b : Branch) → AreAt branches k a b → branches ≡ take (k - 1) branches ++ ((a ∷ b ∷ []) ++ drop (k + 1) branches)
around-both branches k a b at =
    let next : (k - 1) + 1 ≡ k = omega (arith, at.some) in
    around branches (k - 1) a at.first.there at.first.is
    ∙ ap (λ (n : ℕ). take (k - 1) branches ++ (a ∷ drop n branches)) next
    ∙ ap (λ (bs : List Branch). take (k - 1) branches ++ (a ∷ bs)) (drop_more branches k b at.second.there ∙ ap (λ (x : Branch). x ∷ drop (k + 1) branches) (sym at.second.is))

flat-two : {L : Type 0} (nodes : List (Shape L)) (a b : Branch) → flat_rows nodes (a ∷ b ∷ []) ≡ branch_rows (rows_table nodes) a ++ branch_rows (rows_table nodes) b
flat-two {L} nodes a b = ap (λ (rs : List (Row L)). branch_rows (rows_table nodes) a ++ rs) (append-nil (branch_rows (rows_table nodes) b))

pub neighbours-at : {L : Type 0} (w : Widths L) (nodes : List (Shape L)) (branches : List Branch) (k : ℕ) (a b : Branch) → IsWellFormed w nodes (Branches branches) → AreAt branches k a b
    → (get_or (balance_states_below (balance_states nodes) branches) (k - 1) no_balance_state).children + (get_or (balance_states_below (balance_states nodes) branches) k no_balance_state).children ≤ merge_up_to → AreNeighbours w nodes a b
neighbours-at {L} w nodes branches k a b well_formed at few =
    let front = flat_rows nodes (take (k - 1) branches) in
    let behind = flat_rows nodes (drop (k + 1) branches) in
    let split = ap (flat_rows nodes) (around-both branches k a b at) ∙ flat-parts nodes (take (k - 1) branches) (a ∷ b ∷ []) (drop (k + 1) branches) in
    let both = InOrder-front (flat_rows nodes (a ∷ b ∷ [])) behind (InOrder-back front (flat_rows nodes (a ∷ b ∷ []) ++ behind) (subst InOrder split well_formed.ordered)) in
    let one = ap (λ (s : BalanceState). s.children) (told-at (balance_states nodes) branches (k - 1) a at.first) in
    let two = ap (λ (s : BalanceState). s.children) (told-at (balance_states nodes) branches k b at.second) in
    record {
      first = part-at w nodes branches (k - 1) a well_formed at.first;
      second = part-at w nodes branches k b well_formed at.second;
      ordered = subst InOrder (flat-two nodes a b) both;
      level = height-at w nodes branches k b well_formed at.second ∙ sym (height-at w nodes branches (k - 1) a well_formed at.first);
      few = omega (arith, one, two, few);
    }

-- the step that it is
pub neighbours-step : {L : Type 0} (w : Widths L) (nodes : List (Shape L)) (branches made : List Branch) (k : ℕ) (a b branch : Branch) (others : List Branch) → AreAt branches k a b → a.node.0 < length nodes → b.node.0 < length nodes → IsMerge w nodes (children_of nodes a) (children_of nodes b) branch
    → others ≡ branch ∷ [] → made ≡ take (k - 1) branches ++ (others ++ drop (k + 1) branches) → Steps w nodes false branches made
neighbours-step w nodes branches made k a b branch others at la lb m only is =
    let step = merge (take (k - 1) branches) (drop (k + 1) branches) a b branch la lb m in
    let after = is ∙ ap (λ (bs : List Branch). take (k - 1) branches ++ (bs ++ drop (k + 1) branches)) only in
    subst (λ (bs : List Branch). Steps w nodes false bs made) (sym (around-both branches k a b at)) (subst (λ (bs : List Branch). Steps w nodes false (take (k - 1) branches ++ a ∷ b ∷ drop (k + 1) branches) bs) (sym after) step)

pub neighbours-stepped : {L : Type 0} (w : Widths L) (old new : List (Shape L)) (branches made : List Branch) (k : ℕ) (a b branch : Branch) (others : List Branch) → IsWellFormed w old (Branches branches) → AreAt branches k a b → Grows old new → IsMerged w old new a b branch → others ≡ branch ∷ []
    → made ≡ take (k - 1) branches ++ (others ++ drop (k + 1) branches) → AreStepped w old new branches made
neighbours-stepped {L} w old new branches made k a b branch others well_formed at g by only is =
    let rows = branch_rows (rows_table old) a ++ branch_rows (rows_table old) b in
    let one = branches-one w new (height_of w old a.node.0) rows (Some branch) by.has in
    let have = subst (λ (n : ℕ). BranchesHaveRows w new n (flat_rows old (a ∷ b ∷ [])) (branch ∷ [])) (height-at w old branches (k - 1) a well_formed at.first)
    (subst (λ (rs : List (Row L)). BranchesHaveRows w new (height_of w old a.node.0) rs (branch ∷ [])) (sym (flat-two old a b)) one) in
    let now = debt-one (balance_states new) branch in
    let then = debt-two (balance_states old) a b in
    let owes : debt_below (balance_states new) (branch ∷ []) + 8 ≤ debt_below (balance_states old) (a ∷ b ∷ []) = omega (arith, now, then, by.owes) in
    in-coordinate w old new branches made (take (k - 1) branches) (a ∷ b ∷ []) (drop (k + 1) branches) (branch ∷ [])
    record { before = around-both branches k a b at; after = is ∙ ap (λ (bs : List Branch). take (k - 1) branches ++ (bs ++ drop (k + 1) branches)) only } g well_formed (omega arith) have
    record { less = λ f x. merged-less f x (debt_below (balance_states new) (branch ∷ [])) (debt_below (balance_states old) (a ∷ b ∷ [])) owes }

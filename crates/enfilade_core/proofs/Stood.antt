-- How a node stands that was made of children, as they are or as they are seen from an origin.
use Rattle.std.proofs.Common.{◌≡◌, ℕ, ◌+◌, ◌||◌, ltb, List, [], ◌∷◌, ◌++◌, length, get_or, map, refl, ap, ◌∙◌, sum_by}
use Rattle.std.specs.List.{list_any}
use Rattle.std.proofs.lemmas.List.{length-map}
use Rattle.enfilade_core.specs.declared.tree.Row.{Row}
use Rattle.enfilade_core.specs.declared.tree.Branch.{Branch}
use Rattle.enfilade_core.specs.declared.balance_state.BalanceState.{BalanceState}
use Rattle.enfilade_core.specs.Rows.{Shape, Rows}
use Rattle.enfilade_core.specs.Packing.{branch_back}
use Rattle.enfilade_core.specs.BalanceState.{no_balance_state, node_debt, split_above, has_merge, balance_state_in, balance_state_below, balance_state_of, balance_states, balance_states_below}
use Rattle.enfilade_core.proofs.PackedNode.{said-last}

pub balance_state-last : {L : Type 0} (old new : List (Shape L)) (node : Shape L) (k : ℕ) → new ≡ old ++ node ∷ [] → k ≡ length old → balance_state_of new k ≡ balance_state_in (balance_states old) node
balance_state-last old new node k is at = said-last balance_state_in old new node k no_balance_state is at

abbrev pub of_rows : ℕ → BalanceState
of_rows n = record { children = n; debt = node_debt n; allows = ltb split_above n }

-- only the number of rows counts
pub rows-stand : {L : Type 0} (told : List BalanceState) (f : Row L → Row L) (rows made : List (Row L)) → made ≡ map f rows → balance_state_in told (Rows made) ≡ balance_state_in told (Rows rows)
rows-stand told f rows made is = ap (λ (n : ℕ). of_rows n) (ap length is ∙ length-map rows f)

abbrev pub of_branches : ℕ → List BalanceState → BalanceState
of_branches n below = record {
  children = n;
  debt = node_debt n + sum_by (λ s. s.debt) below;
  allows = ltb split_above n || list_any (λ s. s.allows) below || has_merge below;
}

back-below : (told : List BalanceState) (a b : List ℕ) (branches : List Branch) → balance_states_below told (map (branch_back a b) branches) ≡ balance_states_below told branches
back-below told a b [] = refl
back-below told a b (branch ∷ branches) = ap (λ (ss : List BalanceState). get_or told branch.node.0 no_balance_state ∷ ss) (back-below told a b branches)

-- only the branches' nodes count
pub branches-stand : (told : List BalanceState) (a b : List ℕ) (branches made : List Branch) → made ≡ map (branch_back a b) branches → balance_state_below told made ≡ balance_state_below told branches
branches-stand told a b branches made is =
    ap (λ (bs : List Branch). of_branches (length bs) (balance_states_below told bs)) is
    ∙ ap (λ (n : ℕ). of_branches n (balance_states_below told (map (branch_back a b) branches))) (length-map branches (branch_back a b))
    ∙ ap (λ (ss : List BalanceState). of_branches (length branches) ss) (back-below told a b branches)

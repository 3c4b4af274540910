-- How far a tree is from its good shape, and whether a step of the balancer is allowed in it.
use Rattle.std.specs.Prelude.{ℕ, ◌+◌, ◌-◌, ◌*◌, ◌==◌, ◌||◌, min, nat_lt, nat_le, Bool, false, if◌then◌else◌, List, [], ◌∷◌, map, length, slice_index_or, sum_by}
use Rattle.std.specs.List.{list_any}
use Rattle.enfilade_core.specs.declared.tree.Branch.{Branch}
use Rattle.enfilade_core.specs.declared.balance_state.BalanceState.{BalanceState}
use Rattle.enfilade_core.specs.Rows.{Shape, Rows, Branches, table, node_at}
use Rattle.enfilade_core.specs.Summary.{most_count}

-- over this many children a node has debt, and under that many where it is not the root
abbrev pub most_children : ℕ
most_children = 12

abbrev pub fewest_children : ℕ
fewest_children = 5

-- a node of more children than this may be split
abbrev pub split_above : ℕ
split_above = 16

-- neighbours with this many children together, or fewer, may be merged
abbrev pub merge_up_to : ℕ
merge_up_to = 6

-- the debt of a root whose one child is a node
abbrev pub lone_child_debt : ℕ
lone_child_debt = 7

-- what a node with so many children owes where it is not the root
abbrev pub node_debt : ℕ → ℕ
node_debt children = (children - most_children) + 2 * (fewest_children - children)

-- whether two neighbours may be merged
abbrev pub has_merge : List BalanceState → Bool
has_merge [] = false
has_merge (a ∷ []) = false
has_merge (a ∷ b ∷ more) = nat_le (a.children + b.children) merge_up_to || has_merge (b ∷ more)

abbrev pub no_balance_state : BalanceState
no_balance_state = record { children = 0; debt = 0; allows = false }

-- what stands under the branches
abbrev pub balance_states_below : List BalanceState → List Branch → List BalanceState
balance_states_below told branches = map (λ branch. slice_index_or told branch.node.0 no_balance_state) branches

-- an inner node as one that is not the root: its children, the debt of it and of the nodes under it, and
-- whether a split or a merge is allowed at it or under it
abbrev pub balance_state_below : List BalanceState → List Branch → BalanceState
balance_state_below told branches = record {
  children = length branches;
  debt = node_debt (length branches) + sum_by (λ s. s.debt) (balance_states_below told branches);
  allows = nat_lt split_above (length branches) || list_any (λ s. s.allows) (balance_states_below told branches) || has_merge (balance_states_below told branches);
}

-- the balance state of a node with these children
abbrev pub balance_state_in : {L : Type 0} → List BalanceState → Shape L → BalanceState
balance_state_in told (Rows rows) = record { children = length rows; debt = node_debt (length rows); allows = nat_lt split_above (length rows) }
balance_state_in told (Branches branches) = balance_state_below told branches

abbrev pub balance_states : {L : Type 0} → List (Shape L) → List BalanceState
balance_states nodes = table balance_state_in nodes

abbrev pub balance_state_of : {L : Type 0} → List (Shape L) → ℕ → BalanceState
balance_state_of nodes k = slice_index_or (balance_states nodes) k no_balance_state

-- the debt of a tree with these children under its root
abbrev pub root_debt : {L : Type 0} → List BalanceState → Shape L → ℕ
root_debt told (Rows rows) = length rows - most_children
root_debt told (Branches branches) = (length branches - most_children) + (if length branches == 1 then lone_child_debt else 0) + sum_by (λ s. s.debt) (balance_states_below told branches)

-- whether the root has one child, which is a node
abbrev pub has_lone_child : {L : Type 0} → Shape L → Bool
has_lone_child (Rows rows) = false
has_lone_child (Branches branches) = length branches == 1

-- the debt of the tree whose root is node k: a whole number without bound
abbrev pub tree_debt : {L : Type 0} → List (Shape L) → ℕ → ℕ
tree_debt nodes k = root_debt (balance_states nodes) (node_at nodes k)

-- whether a step is allowed in the tree whose root is node k: a split, a merge or the drop of the root
abbrev pub tree_allows : {L : Type 0} → List (Shape L) → ℕ → Bool
tree_allows nodes k = (balance_state_of nodes k).allows || has_lone_child (node_at nodes k)

-- a balance state as it is kept with a node: the debt stops at the most that it can be
abbrev pub kept_balance_state : BalanceState → BalanceState
kept_balance_state s = record s { debt = min s.debt most_count }

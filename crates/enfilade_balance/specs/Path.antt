-- How a step goes down a path. Only private functions cite this.
use Rattle.std.specs.Prelude.{◌≡◌, ℕ, ◌+◌, ◌-◌, ◌<◌, ◌≤◌, ◌==◌, ◌||◌, Bool, false, if◌then◌else◌, List, [], ◌∷◌, ◌++◌, length, sum_by}
use Rattle.std.specs.List.{list_any}
use Rattle.enfilade_core.specs.declared.tree.Row.{Row}
use Rattle.enfilade_core.specs.declared.tree.Branch.{Branch}
use Rattle.enfilade_core.specs.declared.tree.Node.{Node}
use Rattle.enfilade_balance.specs.declared.balance.Balance.{Balance}
use Rattle.enfilade_balance.specs.OneStep.{children_of, IsOver, IsSplit, IsMerge, Steps}
use Rattle.enfilade_balance.specs.Steps.{root_after, is_idle, is_dropped}
use Rattle.enfilade_core.specs.declared.balance_state.BalanceState.{BalanceState}
use Rattle.enfilade_core.specs.Rows.{Shape, Branches, branch_rows, rows_in, rows_table, rows_of, node_at}
use Rattle.enfilade_core.specs.Axes.{Widths, InOrder}
use Rattle.enfilade_core.specs.WellFormed.{IsWellFormedPart}
use Rattle.enfilade_core.specs.Summary.{height_of}
use Rattle.enfilade_core.specs.Exchange.{Grows, IsPacked, HasRows, BranchHasRows, BranchesHaveRows, height_in}
use Rattle.enfilade_core.specs.BalanceState.{most_children, lone_child_debt, merge_up_to, node_debt, has_merge, balance_states, balance_states_below, balance_state_in, balance_state_of, root_debt, has_lone_child, tree_debt}

-- what the nodes of branches owe together
abbrev pub debt_below : List BalanceState → List Branch → ℕ
debt_below told branches = sum_by (λ s. s.debt) (balance_states_below told branches)

-- what a root with so many branches owes itself
abbrev pub own_debt : ℕ → ℕ
own_debt children = (children - most_children) + (if children == 1 then lone_child_debt else 0)

-- children that stand as those of node k do
pub record StandsAs {L : Type 0} (nodes : List (Shape L)) (k : ℕ) (made : Shape L) : Type 0 where
  pub balance_state : balance_state_in (balance_states nodes) made ≡ balance_state_of nodes k
  pub debt : root_debt (balance_states nodes) made ≡ tree_debt nodes k
  pub lone : has_lone_child made ≡ has_lone_child (node_at nodes k)

-- A node owes less with other branches than it did: so many before, which owed so much, and so many after. It
-- does so as a root and under one.
pub record OwesLess (children debt made after : ℕ) : Type 0 where
  pub below : node_debt made + after + 1 ≤ node_debt children + debt
  pub root : own_debt made + after + 1 ≤ own_debt children + debt

-- a new node with these children, and the branch by which they stand where they stood
pub record Packs {L : Type 0} (w : Widths L) (old new : List (Shape L)) (node : Shape L) (branch : Branch) : Type 0 where
  pub grows : Grows old new
  pub packed : IsPacked w old new node branch
  pub stands : balance_state_of new branch.node.0 ≡ balance_state_in (balance_states old) node

-- two branches over the halves of these children
pub record InTwo {L : Type 0} (w : Widths L) (nodes : List (Shape L)) (node : Shape L) (made : List Branch) : Type 0 where
  pub lower : Branch
  pub upper : Branch
  pub halves : IsSplit w nodes node lower upper
  pub are : made ≡ lower ∷ upper ∷ []

-- one branch over these branches
pub record InOne {L : Type 0} (w : Widths L) (nodes : List (Shape L)) (branches made : List Branch) : Type 0 where
  pub one : Branch
  pub over : IsOver w nodes (Branches branches) one
  pub is : made ≡ one ∷ []

-- in one step others came in place of one branch
abbrev pub StepsFor : {L : Type 0} → Widths L → List (Shape L) → Bool → Branch → List Branch → Type 0
StepsFor w nodes is_split branch others = (front behind : List Branch) → Steps w nodes is_split (front ++ branch ∷ behind) (front ++ (others ++ behind))

-- two branches with the rows of these children, which owe less together
pub record IsHalved {L : Type 0} (w : Widths L) (old new : List (Shape L)) (node : Shape L) (made : List Branch) : Type 0 where
  pub two : length made ≡ 2
  pub have : BranchesHaveRows w new (height_in w old node) (rows_in (rows_table old) node) made
  pub owe : debt_below (balance_states new) made + 5 ≤ (balance_state_in (balance_states old) node).debt
  pub split : InTwo w new node made

-- neighbours with few children
pub record AreNeighbours {L : Type 0} (w : Widths L) (nodes : List (Shape L)) (a b : Branch) : Type 0 where
  pub first : IsWellFormedPart w nodes a
  pub second : IsWellFormedPart w nodes b
  pub ordered : InOrder (branch_rows (rows_table nodes) a ++ branch_rows (rows_table nodes) b)
  pub level : height_of w nodes b.node.0 ≡ height_of w nodes a.node.0
  pub few : (balance_state_of nodes a.node.0).children + (balance_state_of nodes b.node.0).children ≤ merge_up_to

-- one branch with the rows of two, which owes less than they do
pub record IsMerged {L : Type 0} (w : Widths L) (old new : List (Shape L)) (a b made : Branch) : Type 0 where
  pub has : BranchHasRows w new (height_of w old a.node.0) (branch_rows (rows_table old) a ++ branch_rows (rows_table old) b) made
  pub owes : (balance_state_of new made.node.0).debt + 8 ≤ (balance_state_of old a.node.0).debt + (balance_state_of old b.node.0).debt
  pub merge : IsMerge w new (children_of new a) (children_of new b) made

-- whether a step is allowed at or under one of the branches' nodes, or two neighbours may be merged
abbrev pub may_step : List BalanceState → List Branch → Bool
may_step told branches = list_any (λ s. s.allows) (balance_states_below told branches) || has_merge (balance_states_below told branches)

-- one or two branches with these rows at this height: for each there is 1 less to owe
pub record Replaces {L : Type 0} (w : Widths L) (nodes : List (Shape L)) (height : ℕ) (rows : List (Row L)) (debt : ℕ) (made : List Branch) : Type 0 where
  pub have : BranchesHaveRows w nodes height rows made
  pub some : 1 ≤ length made
  pub few : length made ≤ 2
  pub owe : debt_below (balance_states nodes) made + length made ≤ debt

-- other branches with the same rows at the same height, under which a node owes less
pub record AreStepped {L : Type 0} (w : Widths L) (old new : List (Shape L)) (branches made : List Branch) : Type 0 where
  pub have : HasRows w new (height_in w old (Branches branches)) (rows_in (rows_table old) (Branches branches)) (Branches made)
  pub less : OwesLess (length branches) (debt_below (balance_states old) branches) (length made) (debt_below (balance_states new) made)

-- a root with these rows
pub record IsRootOf {L : Type 0} (nodes : List (Shape L)) (rows : List (Row L)) (root : ℕ) : Type 0 where
  pub below : root < length nodes
  pub rows_are : rows_of nodes root ≡ rows

-- a new root with the rows of these children, whose tree owes less than one over these children
pub record IsLighter {L : Type 0} (old new : List (Shape L)) (node : Shape L) (root : ℕ) : Type 0 where
  pub is : IsRootOf new (rows_in (rows_table old) node) root
  pub owes : tree_debt new root + 1 ≤ root_debt (balance_states old) node

-- a step was made, and its root is such a one
pub record IsBalanced {L : Type 0} (old new : List (Shape L)) (node : Shape L) (root : Node) (made : Balance) : Type 0 where
  pub busy : is_idle made ≡ false
  pub dropped : is_dropped made ≡ has_lone_child node
  pub lighter : IsLighter old new node (root_after root made).0

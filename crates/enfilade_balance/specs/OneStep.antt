-- What one step of the balancer does to a tree. All is said of the nodes as they are after it: those that were there
-- stay as they were.
use Rattle.std.specs.Prelude.{◌≡◌, ◌⊎◌, ℕ, ◌+◌, ◌/◌, ◌<◌, ◌≤◌, Bool, true, false, List, [], ◌∷◌, ◌++◌, map, length, take, drop}
use Rattle.enfilade_core.specs.declared.tree.Branch.{Branch}
use Rattle.enfilade_balance.specs.declared.balance.Balance.{Balance}
use Rattle.enfilade_balance.specs.declared.balance.Balance.TheVariants.{Split, Merged, Dropped, Idle}
use Rattle.enfilade_core.specs.Rows.{Shape, Rows, Branches, moved, branch_rows, rows_in, rows_table, node_at}
use Rattle.enfilade_core.specs.Axes.{Widths}
use Rattle.enfilade_core.specs.WellFormed.{NamesBelow}
use Rattle.enfilade_core.specs.Summary.{height_of}
use Rattle.enfilade_core.specs.Exchange.{branch_at, height_in}
use Rattle.enfilade_core.specs.BalanceState.{merge_up_to, split_above, balance_states, balance_state_in, balance_state_of}

-- children, moved to where they stand from a base
abbrev pub children_at : {L : Type 0} → List ℕ → List ℕ → Shape L → Shape L
children_at a b (Rows rows) = Rows (map (moved a b) rows)
children_at a b (Branches branches) = Branches (map (branch_at a b) branches)

-- the children of a branch's node, where they stand
abbrev pub children_of : {L : Type 0} → List (Shape L) → Branch → Shape L
children_of nodes branch = children_at branch.first branch.second (node_at nodes branch.node.0)

abbrev pub how_many : {L : Type 0} → Shape L → ℕ
how_many (Rows rows) = length rows
how_many (Branches branches) = length branches

-- so many of the children, and the others
abbrev pub first_children : {L : Type 0} → ℕ → Shape L → Shape L
first_children n (Rows rows) = Rows (take n rows)
first_children n (Branches branches) = Branches (take n branches)

abbrev pub other_children : {L : Type 0} → ℕ → Shape L → Shape L
other_children n (Rows rows) = Rows (drop n rows)
other_children n (Branches branches) = Branches (drop n branches)

-- children that are all rows, or all nodes
abbrev pub AreAlike : {L : Type 0} → Shape L → Shape L → Type 0
AreAlike (Rows rows) (Rows more) = Unit {0}
AreAlike (Rows rows) (Branches more) = ⊥
AreAlike (Branches branches) (Rows more) = ⊥
AreAlike (Branches branches) (Branches more) = Unit {0}

-- such children, the ones behind the others
abbrev pub joined : {L : Type 0} → Shape L → Shape L → Shape L
joined (Rows rows) (Rows more) = Rows (rows ++ more)
joined (Rows rows) (Branches more) = Rows rows
joined (Branches branches) (Rows more) = Branches branches
joined (Branches branches) (Branches more) = Branches (branches ++ more)

-- A branch to a node over these children: with their rows, where they stood, as high, with as many children, owing as
-- much, and allowing what they do.
pub record IsOver {L : Type 0} (w : Widths L) (nodes : List (Shape L)) (children : Shape L) (branch : Branch) : Type 0 where
  pub below : branch.node.0 < length nodes
  pub named : NamesBelow (length nodes) children
  pub rows_are : branch_rows (rows_table nodes) branch ≡ rows_in (rows_table nodes) children
  pub level : height_of w nodes branch.node.0 ≡ height_in w nodes children
  pub state : balance_state_of nodes branch.node.0 ≡ balance_state_in (balance_states nodes) children

-- a node of more than 16 children became two: the first over half of them, rounded down, the second over the others
pub record IsSplit {L : Type 0} (w : Widths L) (nodes : List (Shape L)) (children : Shape L) (lower upper : Branch) : Type 0 where
  pub many : split_above < how_many children
  pub lower_half : IsOver w nodes (first_children (how_many children / 2) children) lower
  pub upper_half : IsOver w nodes (other_children (how_many children / 2) children) upper

-- two nodes of 6 children together, or fewer, became one over the children of both
pub record IsMerge {L : Type 0} (w : Widths L) (nodes : List (Shape L)) (children more : Shape L) (made : Branch) : Type 0 where
  pub few : how_many children + how_many more ≤ merge_up_to
  pub alike : AreAlike children more
  pub both : IsOver w nodes (joined children more) made

-- One step among the branches of a node, where all others stay: a split of one (then it is true), a merge of two
-- neighbours (then it is false), or one such step among the branches of the node under one of them.
pub data Steps {L : Type 0} (w : Widths L) (nodes : List (Shape L)) : Bool → List Branch → List Branch → Type 0 where
  split : (front behind : List Branch) (branch lower upper : Branch) → branch.node.0 < length nodes → IsSplit w nodes (children_of nodes branch) lower upper → Steps w nodes true (front ++ branch ∷ behind) (front ++ lower ∷ upper ∷ behind)
  merge : (front behind : List Branch) (a b made : Branch) → a.node.0 < length nodes → b.node.0 < length nodes → IsMerge w nodes (children_of nodes a) (children_of nodes b) made → Steps w nodes false (front ++ a ∷ b ∷ behind) (front ++ made ∷ behind)
  under : (is_split : Bool) (front behind before after : List Branch) (branch made : Branch) → branch.node.0 < length nodes → children_of nodes branch ≡ Branches before → Steps w nodes is_split before after → IsOver w nodes (Branches after) made → Steps w nodes is_split (front ++ branch ∷ behind) (front ++ made ∷ behind)

-- a root of more than 16 children: the new one stands over its two halves
pub record SplitsRoot {L : Type 0} (w : Widths L) (nodes : List (Shape L)) (children : Shape L) (after : ℕ) : Type 0 where
  pub lower : Branch
  pub upper : Branch
  pub halves : IsSplit w nodes children lower upper
  pub is : node_at nodes after ≡ Branches (lower ∷ upper ∷ [])

-- one step among the branches of the root
pub record StepsBelow {L : Type 0} (w : Widths L) (nodes : List (Shape L)) (is_split : Bool) (children : Shape L) (after : ℕ) : Type 0 where
  pub before : List Branch
  pub made : List Branch
  pub was : children ≡ Branches before
  pub steps : Steps w nodes is_split before made
  pub is : node_at nodes after ≡ Branches made

-- the one child of the root, which is a node, came into its place, with its children where they stood
pub record DropsRoot {L : Type 0} (nodes : List (Shape L)) (children : Shape L) (after : ℕ) : Type 0 where
  pub only : Branch
  pub was : children ≡ Branches (only ∷ [])
  pub is : node_at nodes after ≡ children_of nodes only

-- a step in a tree whose root has these children, as it was told
abbrev pub IsOneStep : {L : Type 0} → Widths L → List (Shape L) → Shape L → Balance → Type 0
IsOneStep w nodes children (Split after) = SplitsRoot w nodes children after.0 ⊎ StepsBelow w nodes true children after.0
IsOneStep w nodes children (Merged after) = StepsBelow w nodes false children after.0
IsOneStep w nodes children (Dropped after) = DropsRoot nodes children after.0
IsOneStep w nodes children Idle = Unit {0}

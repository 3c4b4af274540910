-- Laws of what trees owe.
use Rattle.std.specs.Prelude.{◌≡◌, ℕ, ◌+◌, ◌^◌, ◌<◌, ◌≤◌, false, List, ◌++◌, length}
use Rattle.enfilade_core.specs.Rows.{Shape, rows_of, node_at}
use Rattle.enfilade_core.specs.Axes.{Widths}
use Rattle.enfilade_core.specs.Summary.{depth_of}
use Rattle.enfilade_core.specs.Exchange.{Grows}
use Rattle.enfilade_core.specs.BalanceState.{balance_states, balance_state_in, balance_state_of, tree_debt, tree_allows}

-- what a node owes where it is not the root, and whether a step is allowed at it or under it, follows from its children
-- and what is so of them
abbrev pub BalanceStatesOfChildren : {L : Type 0} → List (Shape L) → Type 0
BalanceStatesOfChildren nodes = (k : ℕ) → k < length nodes → balance_state_of nodes k ≡ balance_state_in (balance_states nodes) (node_at nodes k)

-- nodes that are added leave what the trees that are there owe, and whether a step is allowed in them
abbrev pub DebtsStay : {L : Type 0} → List (Shape L) → Type 0
DebtsStay {L} nodes = (more : List (Shape L)) (k : ℕ) → k < length nodes → (tree_debt (nodes ++ more) k ≡ tree_debt nodes k) × (tree_allows (nodes ++ more) k ≡ tree_allows nodes k)

-- a step in a tree: nodes came in, and the new root has the old one's rows and owes less
pub record IsStep {L : Type 0} (old : List (Shape L)) (root : ℕ) (new : List (Shape L)) (after : ℕ) : Type 0 where
  pub grows : Grows old new
  pub rows : rows_of new after ≡ rows_of old root
  pub lowers : tree_debt new after + 1 ≤ tree_debt old root

-- So many steps in turn, from one root to another. Between two steps nodes may come in, while the tree owes what it owed.
pub data Run {L : Type 0} (nodes : List (Shape L)) (root : ℕ) : List (Shape L) → ℕ → ℕ → Type 0 where
  start : Run nodes root nodes root 0
  wait : {now new : List (Shape L)} {at steps : ℕ} → Run nodes root now at steps → Grows now new → tree_debt new at ≡ tree_debt now at → Run nodes root new at steps
  step : {now new : List (Shape L)} {at after steps : ℕ} → Run nodes root now at steps → IsStep now at new after → Run nodes root new after (steps + 1)

-- there are no more steps than the tree owed before them, less what it owes after them
abbrev pub StepsAreCounted : {L : Type 0} → List (Shape L) → Type 0
StepsAreCounted {L} nodes = (root : ℕ) (now : List (Shape L)) (at steps : ℕ) → Run nodes root now at steps → steps + tree_debt now at ≤ tree_debt nodes root

-- a tree of two levels or more in which no step is allowed has many leaves: twice as many for each level
abbrev pub SettledTreesAreFull : {L : Type 0} → Widths L → List (Shape L) → Type 0
SettledTreesAreFull w nodes = (k : ℕ) → k < length nodes → tree_allows nodes k ≡ false → 2 ≤ depth_of w nodes k → 2 ^ depth_of w nodes k ≤ length (rows_of nodes k)

-- Nodes under new numbers: each marked one has how many marked ones are before it.
use Rattle.std.specs.Prelude.{◌≡◌, ℕ, ◌<◌, Bool, false, List, length, map, take, count_by, slice_index_or, IsTrue}
use Rattle.std.specs.List.{Contains}
use Rattle.enfilade_core.specs.declared.tree.Branch.{Branch}
use Rattle.enfilade_core.specs.Rows.{Shape, Rows, Branches, node_at, branches_under}

-- the numbers of the nodes that hang under a node
abbrev pub under : {L : Type 0} → Shape L → List ℕ
under node = map (λ (branch : Branch). branch.node.0) (branches_under node)

-- a branch, and what hangs under a node, where nodes have other numbers
abbrev pub renamed_branch : (ℕ → ℕ) → Branch → Branch
renamed_branch place branch = record branch { node = record { 0 = place branch.node.0 } }

abbrev pub renamed : {L : Type 0} → (ℕ → ℕ) → Shape L → Shape L
renamed place (Rows rows) = Rows rows
renamed place (Branches branches) = Branches (map (renamed_branch place) branches)

-- marks stand beside nodes, by number
abbrev pub is_marked : List Bool → ℕ → Bool
is_marked marks k = slice_index_or marks k false

-- how many nodes before this one are marked: its place among them
abbrev pub rank : List Bool → ℕ → ℕ
rank marks k = count_by (λ mark. mark) (take k marks)

-- beside each node stands its place
abbrev pub AreRanks : List Bool → List ℕ → Type 0
AreRanks marks ranks = (length ranks ≡ length marks) × ((k : ℕ) → k < length marks → slice_index_or ranks k 0 ≡ rank marks k)

-- what hangs under a marked node is marked
abbrev pub IsClosed : {L : Type 0} → List (Shape L) → List Bool → Type 0
IsClosed nodes marks = (j k : ℕ) → IsTrue (is_marked marks j) → Contains (under (node_at nodes j)) k → IsTrue (is_marked marks k)

-- of the nodes before number n the marked ones are the new nodes, each at its place, and what hangs under them has its
-- new number too
pub record AreAtRanks {L : Type 0} (marks : List Bool) (old new : List (Shape L)) (n : ℕ) : Type 0 where
  pub long : length new ≡ rank marks n
  pub same : (k : ℕ) → k < n → IsTrue (is_marked marks k) → node_at new (rank marks k) ≡ renamed (rank marks) (node_at old k)

-- Nodes, and the rows of a tree.
use Rattle.std.specs.Prelude.{◌≡◌, ℕ, List, [], ◌∷◌, ◌++◌, map, fold, slice_index_or}
use Rattle.std.specs.List.{flat_map}
use Rattle.tumbler.specs.Places.{sum}
use Rattle.enfilade_core.specs.declared.tree.Row.{Row}
use Rattle.enfilade_core.specs.declared.tree.Branch.{Branch}

-- what hangs under a node: rows, or other nodes
pub data Shape (L : Type 0) : Type 0 where
  Rows : List (Row L) → Shape L
  Branches : List Branch → Shape L

-- the branches, or the rows, that hang under a node
abbrev pub branches_under : {L : Type 0} → Shape L → List Branch
branches_under (Rows rows) = []
branches_under (Branches branches) = branches

abbrev pub rows_under : {L : Type 0} → Shape L → List (Row L)
rows_under (Rows rows) = rows
rows_under (Branches branches) = []

-- a node with branches under it, and one with rows
abbrev pub IsInner : {L : Type 0} → Shape L → Type 0
IsInner node = node ≡ Branches (branches_under node)

abbrev pub IsBottom : {L : Type 0} → Shape L → Type 0
IsBottom node = node ≡ Rows (rows_under node)

-- What is said of each node, in the order of their numbers. A node is told what was said of those with
-- lesser numbers.
unfoldable pub table : {L T : Type 0} → (List T → Shape L → T) → List (Shape L) → List T
table say nodes = fold (λ told node. told ++ say told node ∷ []) [] nodes

-- a row, moved by a on the first axis and by b on the second
abbrev pub moved : {L : Type 0} → List ℕ → List ℕ → Row L → Row L
moved a b row = record row { first = sum a row.first; second = sum b row.second }

-- the rows of a branch's node, moved by the branch's displacements
abbrev pub branch_rows : {L : Type 0} → List (List (Row L)) → Branch → List (Row L)
branch_rows told branch = map (moved branch.first branch.second) (slice_index_or told branch.node.0 [])

-- the rows under a node, with places from the node's own origin on
abbrev pub rows_in : {L : Type 0} → List (List (Row L)) → Shape L → List (Row L)
rows_in told (Rows rows) = rows
rows_in told (Branches branches) = flat_map (branch_rows told) branches

abbrev pub rows_table : {L : Type 0} → List (Shape L) → List (List (Row L))
rows_table nodes = table rows_in nodes

-- the rows of the tree whose root is node k: its origin is zero
abbrev pub rows_of : {L : Type 0} → List (Shape L) → ℕ → List (Row L)
rows_of nodes k = slice_index_or (rows_table nodes) k []

-- the node k
abbrev pub node_at : {L : Type 0} → List (Shape L) → ℕ → Shape L
node_at nodes k = slice_index_or nodes k (Rows [])

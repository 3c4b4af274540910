-- Which children a node may have.
use Rattle.std.specs.Prelude.{◌≡◌, ◌≢◌, ℕ, ◌<◌, List, [], ◌∷◌, length, map, take, All, slice_index_or}
use Rattle.std.specs.List.{flat_map}
use Rattle.tumbler.specs.Places.{IsTumbler, sum}
use Rattle.enfilade_core.specs.declared.tree.Branch.{Branch}
use Rattle.enfilade_core.specs.Rows.{Shape, Rows, Branches, table, branch_rows, rows_in, rows_table, rows_of, node_at}
use Rattle.enfilade_core.specs.Axes.{Widths, Axis, first_axis, second_axis, greatest_end, InOrder, IsWellFormedRow}
use Rattle.enfilade_core.specs.Summary.{height_of}

-- where a branch's node and the nodes below it have their origins on an axis
abbrev pub branch_origins : {L : Type 0} → Axis L → List (List (List ℕ)) → Branch → List (List ℕ)
branch_origins axis told branch = axis.origin branch ∷ map (sum (axis.origin branch)) (slice_index_or told branch.node.0 [])

-- the origins of the nodes below a node, from its own origin on
abbrev pub origins_in : {L : Type 0} → Axis L → List (List (List ℕ)) → Shape L → List (List ℕ)
origins_in axis told (Rows rows) = []
origins_in axis told (Branches branches) = flat_map (branch_origins axis told) branches

abbrev pub origins_table : {L : Type 0} → Axis L → List (Shape L) → List (List (List ℕ))
origins_table axis nodes = table (origins_in axis) nodes

-- a branch names an earlier node that has rows, and its extents are the greatest ends of those
pub record IsWellFormedBranch {L : Type 0} (w : Widths L) (before : List (Shape L)) (branch : Branch) : Type 0 where
  pub below : branch.node.0 < length before
  pub filled : rows_of before branch.node.0 ≢ []
  pub first_extent : branch.first_extent ≡ greatest_end (first_axis w) (rows_of before branch.node.0)
  pub second_extent : branch.second_extent ≡ greatest_end (second_axis w) (rows_of before branch.node.0)

-- branches of equally deep nodes, one or more
pub record AreWellFormedBranches {L : Type 0} (w : Widths L) (before : List (Shape L)) (branches : List Branch) : Type 0 where
  pub some : branches ≢ []
  pub each : All (IsWellFormedBranch w before) branches
  pub height : ℕ
  pub level : All (λ branch. height_of w before branch.node.0 ≡ height) branches

abbrev pub HasWellFormedBranches : {L : Type 0} → Widths L → List (Shape L) → Shape L → Type 0
HasWellFormedBranches w before (Rows rows) = Unit {0}
HasWellFormedBranches w before (Branches branches) = AreWellFormedBranches w before branches

-- the children of a node, where the nodes before it are given
pub record IsWellFormed {L : Type 0} (w : Widths L) (before : List (Shape L)) (node : Shape L) : Type 0 where
  pub branches : HasWellFormedBranches w before node
  pub first_origins : All IsTumbler (origins_in (first_axis w) (origins_table (first_axis w) before) node)
  pub second_origins : All IsTumbler (origins_in (second_axis w) (origins_table (second_axis w) before) node)
  pub rows : All (IsWellFormedRow w) (rows_in (rows_table before) node)
  pub ordered : InOrder (rows_in (rows_table before) node)

-- each node has well formed children among those before it
pub record AreWellFormed {L : Type 0} (w : Widths L) (nodes : List (Shape L)) : Type 0 where
  pub each : (k : ℕ) → k < length nodes → IsWellFormed w (take k nodes) (node_at nodes k)

-- a branch as a part of a node: all that is below it fits where it stands
pub record IsWellFormedPart {L : Type 0} (w : Widths L) (nodes : List (Shape L)) (part : Branch) : Type 0 where
  pub branch : IsWellFormedBranch w nodes part
  pub first_origins : All IsTumbler (branch_origins (first_axis w) (origins_table (first_axis w) nodes) part)
  pub second_origins : All IsTumbler (branch_origins (second_axis w) (origins_table (second_axis w) nodes) part)
  pub rows : All (IsWellFormedRow w) (branch_rows (rows_table nodes) part)

-- all nodes that are named have numbers below n
abbrev pub NamesBelow : {L : Type 0} → ℕ → Shape L → Type 0
NamesBelow n (Rows rows) = Unit {0}
NamesBelow n (Branches branches) = All (λ branch. branch.node.0 < n) branches

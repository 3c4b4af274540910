-- Children seen from a new origin. Only private functions cite this.
use Rattle.std.specs.Prelude.{◌≡◌, ◌≢◌, ℕ, List, [], ◌∷◌, map, All}
use Rattle.tumbler.specs.Places.{IsTumbler, sum, difference}
use Rattle.enfilade_core.specs.declared.tree.Row.{Row}
use Rattle.enfilade_core.specs.declared.tree.Branch.{Branch}
use Rattle.enfilade_core.specs.Rows.{Shape, moved, branch_rows, rows_in, rows_table}
use Rattle.enfilade_core.specs.Axes.{Widths, first_axis, second_axis, IsWellFormedRow}
use Rattle.enfilade_core.specs.WellFormed.{origins_in, origins_table, IsWellFormed, IsWellFormedPart}
use Rattle.enfilade_core.specs.Summary.{height_of}
use Rattle.enfilade_core.specs.Exchange.{height_in}

-- a row and a branch, as they are seen from a on the first axis and b on the second
abbrev pub back : {L : Type 0} → List ℕ → List ℕ → Row L → Row L
back a b row = record row { first = difference row.first a; second = difference row.second b }

abbrev pub branch_back : List ℕ → List ℕ → Branch → Branch
branch_back a b branch = record branch { first = difference branch.first a; second = difference branch.second b }

-- children that a new node may have whose origin stands at these places
pub record MayStandAt {L : Type 0} (w : Widths L) (nodes : List (Shape L)) (node : Shape L) (a b : List ℕ) : Type 0 where
  pub well_formed : IsWellFormed w nodes node
  pub filled : rows_in (rows_table nodes) node ≢ []
  pub first_origins : All IsTumbler (a ∷ map (sum a) (origins_in (first_axis w) (origins_table (first_axis w) nodes) node))
  pub second_origins : All IsTumbler (b ∷ map (sum b) (origins_in (second_axis w) (origins_table (second_axis w) nodes) node))
  pub rows : All (IsWellFormedRow w) (map (moved a b) (rows_in (rows_table nodes) node))

-- a branch to a new node with these children, whose origin stands at these places
pub record IsPlaced {L : Type 0} (w : Widths L) (old new : List (Shape L)) (node : Shape L) (a b : List ℕ) (branch : Branch) : Type 0 where
  pub part : IsWellFormedPart w new branch
  pub rows : branch_rows (rows_table new) branch ≡ map (moved a b) (rows_in (rows_table old) node)
  pub level : height_of w new branch.node.0 ≡ height_in w old node

-- How far what is below a node reaches: where its origin may stand so that all of that fits.
use Rattle.std.specs.Prelude.{◌≡◌, ℕ, ◌<◌, List, [], ◌∷◌, ◌++◌, length, slice_index_or}
use Rattle.std.specs.List.{flat_map}
use Rattle.tumbler.specs.Reach.{reach}
use Rattle.enfilade_core.specs.declared.tree.Row.{Row}
use Rattle.enfilade_core.specs.declared.tree.Branch.{Branch}
use Rattle.enfilade_core.specs.declared.reach.Reach.{Reach}
use Rattle.enfilade_core.specs.Rows.{Shape, branch_rows, rows_table, rows_of}
use Rattle.enfilade_core.specs.Axes.{Widths, Axis, first_axis, second_axis, end_on}
use Rattle.enfilade_core.specs.WellFormed.{branch_origins, origins_table}

-- where a row stands and where it ends
abbrev pub row_points : {L : Type 0} → Axis L → Row L → List (List ℕ)
row_points axis row = axis.coordinate row ∷ end_on axis row ∷ []

abbrev pub points : {L : Type 0} → Axis L → List (Row L) → List (List ℕ)
points axis rows = flat_map (row_points axis) rows

-- the reach of some origins and of where rows stand and end
abbrev pub reach_of : {L : Type 0} → Axis L → List (List ℕ) → List (Row L) → List ℕ
reach_of axis origins rows = reach (origins ++ points axis rows)

-- the reach of all that is below node k, from its own origin on
abbrev pub reach_below : {L : Type 0} → Axis L → List (Shape L) → ℕ → List ℕ
reach_below axis nodes k = reach_of axis (slice_index_or (origins_table axis nodes) k []) (rows_of nodes k)

-- the reach of branches with all that is below them, from their node's origin on
abbrev pub branches_reach : {L : Type 0} → Axis L → List (Shape L) → List Branch → List ℕ
branches_reach axis nodes branches = reach_of axis (flat_map (branch_origins axis (origins_table axis nodes)) branches) (flat_map (branch_rows (rows_table nodes)) branches)

-- a list of the reaches of all nodes, in the order of their numbers
pub record AreReaches {L : Type 0} (w : Widths L) (nodes : List (Shape L)) (reaches : List Reach) : Type 0 where
  pub many : length reaches ≡ length nodes
  pub first : (k : ℕ) (reach : Reach) → k < length nodes → reach ≡ slice_index_or reaches k reach → reach.first ≡ reach_below (first_axis w) nodes k
  pub second : (k : ℕ) (reach : Reach) → k < length nodes → reach ≡ slice_index_or reaches k reach → reach.second ≡ reach_below (second_axis w) nodes k

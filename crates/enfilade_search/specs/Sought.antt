-- How a search goes through a tree. Only private functions cite this.
use Rattle.std.specs.Prelude.{ℕ, ◌<◌, ◌&&◌, not, Bool, false, List, [], length, map, All, slice_index_or}
use Rattle.tumbler.specs.Places.{IsTumbler, comes_before, sum}
use Rattle.enfilade_core.specs.declared.tree.Row.{Row}
use Rattle.enfilade_core.specs.declared.tree.Branch.{Branch}
use Rattle.enfilade_core.specs.Rows.{Shape}
use Rattle.enfilade_core.specs.Axes.{Widths, Axis, first_axis, second_axis, IsWellFormedRow}
use Rattle.enfilade_core.specs.WellFormed.{origins_table, IsWellFormedBranch}
use Rattle.enfilade_core.specs.Laws.{rows_from}
use Rattle.enfilade_search.specs.declared.sought.By.{By}
use Rattle.enfilade_search.specs.declared.sought.By.TheVariants.{Place, First, Second}
use Rattle.enfilade_search.specs.declared.sought.Sought.{Sought}
use Rattle.enfilade_search.specs.Meeting.{touches}

-- the axis that a search looks at
abbrev pub axis_by : {L : Type 0} → Widths L → By → Axis L
axis_by w Place = first_axis w
axis_by w First = first_axis w
axis_by w Second = second_axis w

-- the coordinate, or the extent, on that axis, of a first and a second one
abbrev pub side_by : By → List ℕ → List ℕ → List ℕ
side_by Place first second = first
side_by First first second = first
side_by Second first second = second

-- the width by which a search compares a row with its range: none where it goes by the row's place alone
abbrev pub width_by : {L : Type 0} → Widths L → By → Row L → List ℕ
width_by w Place row = []
width_by w First row = w.first row
width_by w Second row = w.second row

abbrev pub is_sought : {L : Type 0} → Widths L → Sought → Row L → Bool
is_sought w sought row = touches sought.from sought.to (side_by sought.by row.first row.second) (width_by w sought.by row)

-- whether no row can be sought that stands at a coordinate or after it on the first axis
abbrev pub past_by : By → List ℕ → List ℕ → Bool
past_by Place to first = not (comes_before first to)
past_by First to first = not (comes_before first to)
past_by Second to first = false

abbrev pub is_past : Sought → List ℕ → Bool
is_past sought first = past_by sought.by sought.to first

-- whether a row can be sought that is nowhere before an origin and ends nowhere after the extent from there
abbrev pub can_hold : Sought → List ℕ → List ℕ → Bool
can_hold sought origin extent = not (comes_before (sum origin extent) sought.from) && comes_before origin sought.to

-- a node that is there, seen from a base: all that is below it fits there
pub record FitsAt {L : Type 0} (w : Widths L) (nodes : List (Shape L)) (k : ℕ) (a b : List ℕ) : Type 0 where
  pub there : k < length nodes
  pub first_origins : All IsTumbler (map (sum a) (slice_index_or (origins_table (first_axis w) nodes) k []))
  pub second_origins : All IsTumbler (map (sum b) (slice_index_or (origins_table (second_axis w) nodes) k []))
  pub rows : All (IsWellFormedRow w) (rows_from nodes k a b)

-- a child of a node that is seen from a base
pub record ChildFits {L : Type 0} (w : Widths L) (nodes : List (Shape L)) (child : Branch) (a b : List ℕ) : Type 0 where
  pub branch : IsWellFormedBranch w nodes child
  pub first_origin : IsTumbler (sum a child.first)
  pub second_origin : IsTumbler (sum b child.second)
  pub below : FitsAt w nodes child.node.0 (sum a child.first) (sum b child.second)

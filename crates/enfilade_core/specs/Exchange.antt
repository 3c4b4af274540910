-- What stands in a gap between two places is exchanged for other rows.
use Rattle.std.specs.Prelude.{◌≡◌, ℕ, ◌+◌, ◌<◌, true, false, not, List, [], ◌∷◌, ◌++◌, map, length, take, drop, Option, Some, None, All, slice_index_or}
use Rattle.std.specs.List.{filter}
use Rattle.tumbler.specs.Places.{IsTumbler, comes_before, sum}
use Rattle.enfilade_core.specs.declared.tree.Row.{Row}
use Rattle.enfilade_core.specs.declared.tree.Branch.{Branch}
use Rattle.enfilade_core.specs.declared.gap.Gap.{Gap}
use Rattle.enfilade_core.specs.declared.compare_gap.Beside.{Beside}
use Rattle.enfilade_core.specs.declared.compare_gap.Beside.TheVariants.{Before, Within, Past, Across}
use Rattle.enfilade_core.specs.declared.exchange.Whole.{Whole}
use Rattle.enfilade_core.specs.declared.exchange.Whole.TheVariants.{Left, Parts}
use Rattle.enfilade_core.specs.Rows.{Shape, Rows, Branches, moved, branch_rows, rows_in, rows_table, rows_of}
use Rattle.enfilade_core.specs.Axes.{Widths, first_axis, second_axis, IsWellFormedRow}
use Rattle.enfilade_core.specs.WellFormed.{NamesBelow, origins_table, IsWellFormed, IsWellFormedPart}
use Rattle.enfilade_core.specs.Summary.{summary_in, summaries, height_of}
use Rattle.enfilade_core.specs.Edits.{is_within, taken_out, shifted}

-- the rows that come before a coordinate, and the others
abbrev pub rows_before : {L : Type 0} → List ℕ → List (Row L) → List (Row L)
rows_before at rows = filter (λ row. comes_before row.first at) rows

abbrev pub rows_past : {L : Type 0} → List ℕ → List (Row L) → List (Row L)
rows_past at rows = filter (λ row. not (comes_before row.first at)) rows

-- What an exchange leaves: the rows before the gap, the new ones, and the rows behind the gap, each as
-- far from where the gap ends then as it was from where it ended before.
abbrev pub exchanged : {L : Type 0} → Gap → List (Row L) → List (Row L) → List (Row L)
exchanged gap new rows = rows_before gap.from rows ++ new ++ shifted gap.to gap.onto (rows_past gap.to rows)

-- nodes came in behind the others
pub record Grows {L : Type 0} (old new : List (Shape L)) : Type 0 where
  pub more : List (Shape L)
  pub is : new ≡ old ++ more

-- ---- how nodes are taken apart and made anew; only functions that copy paths cite these

-- a node seen from a base: all that is below it fits there
pub record IsWellFormedAt {L : Type 0} (w : Widths L) (nodes : List (Shape L)) (k : ℕ) (a b : List ℕ) : Type 0 where
  pub below : k < length nodes
  pub first_origins : All IsTumbler (map (sum a) (slice_index_or (origins_table (first_axis w) nodes) k []))
  pub second_origins : All IsTumbler (map (sum b) (slice_index_or (origins_table (second_axis w) nodes) k []))
  pub rows : All (IsWellFormedRow w) (map (moved a b) (rows_of nodes k))

-- a branch, moved on both axes
abbrev pub branch_at : List ℕ → List ℕ → Branch → Branch
branch_at a b branch = record branch { first = sum a branch.first; second = sum b branch.second }

-- how high a node with these children is
abbrev pub height_in : {L : Type 0} → Widths L → List (Shape L) → Shape L → ℕ
height_in w nodes node = (summary_in w (summaries w nodes) node).height

-- the children of a node, moved to where they stand from a base
pub record IsOpened {L : Type 0} (w : Widths L) (nodes : List (Shape L)) (k : ℕ) (a b : List ℕ) (node : Shape L) : Type 0 where
  pub well_formed : IsWellFormed w nodes node
  pub named : NamesBelow k node
  pub rows : rows_in (rows_table nodes) node ≡ map (moved a b) (rows_of nodes k)
  pub level : height_in w nodes node ≡ height_of w nodes k

-- a new node with these children, seen from their own base
pub record IsPacked {L : Type 0} (w : Widths L) (old new : List (Shape L)) (node : Shape L) (branch : Branch) : Type 0 where
  pub part : IsWellFormedPart w new branch
  pub rows : branch_rows (rows_table new) branch ≡ rows_in (rows_table old) node
  pub level : height_of w new branch.node.0 ≡ height_in w old node

-- children with these rows, at this height
pub record HasRows {L : Type 0} (w : Widths L) (nodes : List (Shape L)) (height : ℕ) (rows : List (Row L)) (node : Shape L) : Type 0 where
  pub well_formed : IsWellFormed w nodes node
  pub rows_are : rows_in (rows_table nodes) node ≡ rows
  pub level : height_in w nodes node ≡ height

-- a branch with these rows, at this height
pub record BranchHasRows {L : Type 0} (w : Widths L) (nodes : List (Shape L)) (height : ℕ) (rows : List (Row L)) (branch : Branch) : Type 0 where
  pub part : IsWellFormedPart w nodes branch
  pub rows_are : branch_rows (rows_table nodes) branch ≡ rows
  pub level : height_of w nodes branch.node.0 ≡ height

-- branches with these rows, all at this height
pub record BranchesHaveRows {L : Type 0} (w : Widths L) (nodes : List (Shape L)) (height : ℕ) (rows : List (Row L)) (branches : List Branch) : Type 0 where
  pub parts : All (IsWellFormedPart w nodes) branches
  pub rows_are : rows_in (rows_table nodes) (Branches branches) ≡ rows
  pub level : All (λ branch. height_of w nodes branch.node.0 ≡ height) branches

-- a branch with these rows, or none where there are none
abbrev pub MayHaveRows : {L : Type 0} → Widths L → List (Shape L) → ℕ → List (Row L) → Option Branch → Type 0
MayHaveRows w nodes height rows (Some branch) = BranchHasRows w nodes height rows branch
MayHaveRows w nodes height rows None = rows ≡ []

-- where all rows stand, as it is said
abbrev pub IsBeside : {L : Type 0} → Gap → List (Row L) → Beside → Type 0
IsBeside gap rows Before = All (λ row. comes_before row.first gap.from ≡ true) rows
IsBeside gap rows Within = All (λ row. is_within gap.from gap.to row ≡ true) rows
IsBeside gap rows Past = All (λ row. comes_before row.first gap.to ≡ false) rows
IsBeside gap rows Across = Unit {0}

-- a branch that has all rows before a coordinate in it or in front of it, and the others in it or behind it
pub record IsChosen {L : Type 0} (nodes : List (Shape L)) (branches : List Branch) (at : List ℕ) (k : ℕ) : Type 0 where
  pub there : k < length branches
  pub front : All (λ row. comes_before row.first at ≡ true) (rows_in (rows_table nodes) (Branches (take k branches)))
  pub back : All (λ row. comes_before row.first at ≡ false) (rows_in (rows_table nodes) (Branches (drop (k + 1) branches)))

-- children with these rows, at this height; an inner list may be empty where there are none
abbrev pub MayHaveChildren : {L : Type 0} → Widths L → List (Shape L) → ℕ → List (Row L) → Shape L → Type 0
MayHaveChildren w nodes height rows (Rows own) = HasRows w nodes height rows (Rows own)
MayHaveChildren w nodes height rows (Branches []) = rows ≡ []
MayHaveChildren w nodes height rows (Branches (branch ∷ branches)) = HasRows w nodes height rows (Branches (branch ∷ branches))

-- children of a root: well formed ones, or none
abbrev pub MayBeRoot : {L : Type 0} → Widths L → List (Shape L) → Shape L → Type 0
MayBeRoot w nodes (Rows rows) = IsWellFormed w nodes (Rows rows)
MayBeRoot w nodes (Branches []) = Unit {0}
MayBeRoot w nodes (Branches (branch ∷ branches)) = IsWellFormed w nodes (Branches (branch ∷ branches))

-- a branch, or none, as a list
abbrev pub branches_if : Option Branch → List Branch
branches_if (Some branch) = branch ∷ []
branches_if None = []

-- What is left of a branch that needs not be taken apart, and what was taken out of it then. Else nothing was.
abbrev pub IsWhole : {L : Type 0} → Widths L → List (Shape L) → Branch → Gap → List (Row L) → List (Row L) → Whole → Type 0
IsWhole w nodes branch gap before after (Left left) = MayHaveRows w nodes (height_of w nodes branch.node.0) (exchanged gap [] (branch_rows (rows_table nodes) branch)) left × (after ≡ before ++ taken_out gap.from gap.to (branch_rows (rows_table nodes) branch))
IsWhole w nodes branch gap before after Parts = after ≡ before

-- branches with these rows, as high as others where those are all equally high
abbrev pub LevelRows : {L : Type 0} → Widths L → List (Shape L) → List (Shape L) → List Branch → List (Row L) → List Branch → Type 0
LevelRows w old new branches rows made = (height : ℕ) → All (λ branch. height_of w old branch.node.0 ≡ height) branches → BranchesHaveRows w new height rows made

-- behind branches of the same height others came in, with these rows
abbrev pub AppendsRows : {L : Type 0} → Widths L → List (Shape L) → List (Shape L) → List Branch → List (Row L) → List Branch → List Branch → Type 0
AppendsRows {L} w old new branches rows before after = (front : List (Row L)) (height : ℕ) → All (λ branch. height_of w old branch.node.0 ≡ height) branches → BranchesHaveRows w old height front before → BranchesHaveRows w new height (front ++ rows) after

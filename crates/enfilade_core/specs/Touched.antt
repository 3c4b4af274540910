-- What an exchange touches of a node's children, and the children with what came of it. Only private functions
-- cite this.
use Rattle.std.specs.Prelude.{◌≡◌, ◌⊎◌, ℕ, ◌<◌, ◌≤◌, true, false, Option, Some, None, List, [], ◌++◌, map, length, take, drop, All}
use Rattle.tumbler.specs.Places.{EndsWell, IsTumbler, comes_before, sum, difference}
use Rattle.tumbler.specs.Laws.{StandsBefore}
use Rattle.enfilade_core.specs.declared.tree.Row.{Row}
use Rattle.enfilade_core.specs.declared.tree.Branch.{Branch}
use Rattle.enfilade_core.specs.declared.gap.Gap.{Gap}
use Rattle.enfilade_core.specs.declared.rebuild_node.Touched.{Touched}
use Rattle.enfilade_core.specs.Rows.{Shape, Branches, branch_rows, rows_in, rows_table}
use Rattle.enfilade_core.specs.Axes.{Widths, IsWellFormedRow}
use Rattle.enfilade_core.specs.WellFormed.{IsWellFormedPart}
use Rattle.enfilade_core.specs.Summary.{height_of}
use Rattle.enfilade_core.specs.Edits.{shifted}
use Rattle.enfilade_core.specs.Exchange.{IsPacked, BranchHasRows, LevelRows, branch_at}
use Rattle.enfilade_core.specs.Packing.{branch_back}

-- a coordinate as it is seen from a base: what comes before the one comes before the other
pub record IsSeenFrom (at base seen : List ℕ) : Type 0 where
  pub before : (coordinate : List ℕ) → comes_before coordinate seen ≡ true → comes_before (sum base coordinate) at ≡ true
  pub past : (coordinate : List ℕ) → EndsWell coordinate → comes_before coordinate seen ≡ false → comes_before (sum base coordinate) at ≡ false

-- rows of branches, seen from their node, that come before a coordinate where they stand, and others that do not
abbrev pub StandBefore : {L : Type 0} → List (Shape L) → List ℕ → List ℕ → List Branch → Type 0
StandBefore nodes at base branches = All (λ row. comes_before (sum base row.first) at ≡ true) (rows_in (rows_table nodes) (Branches branches))

abbrev pub StandPast : {L : Type 0} → List (Shape L) → List ℕ → List ℕ → List Branch → Type 0
StandPast nodes at base branches = All (λ row. comes_before (sum base row.first) at ≡ false) (rows_in (rows_table nodes) (Branches branches))

-- branches, moved on both axes
abbrev pub branches_at : List ℕ → List ℕ → List Branch → List Branch
branches_at a b branches = map (branch_at a b) branches

-- ---- children behind a gap, as their node sees them

-- a branch whose displacements do not end in zero
pub record EndsBoth (branch : Branch) : Type 0 where
  pub first : EndsWell branch.first
  pub second : EndsWell branch.second

-- a branch as its node sees it, where the node's origin is at these places
pub record FitsFrom (a b : List ℕ) (branch : Branch) : Type 0 where
  pub ends : EndsBoth branch
  pub first : IsTumbler (sum a branch.first)
  pub second : IsTumbler (sum b branch.second)

-- a branch moved as the end of a gap is, which its node sees at t and then at u
abbrev pub seen_moved : List ℕ → List ℕ → Branch → Branch
seen_moved t u branch = record branch { first = sum u (difference branch.first t) }

-- what is given of such a branch, and what comes of it where all below it fits there
pub record MayMoveSeen {L : Type 0} (w : Widths L) (nodes : List (Shape L)) (a b t u : List ℕ) (branch : Branch) : Type 0 where
  pub part : IsWellFormedPart w nodes (branch_at a b branch)
  pub ends : EndsBoth branch
  pub rows : All (IsWellFormedRow w) (shifted (sum a t) (sum a u) (branch_rows (rows_table nodes) (branch_at a b branch)))

pub record MovesSeen {L : Type 0} (w : Widths L) (nodes : List (Shape L)) (a b t u : List ℕ) (branch : Branch) : Type 0 where
  pub rows : BranchHasRows w nodes (height_of w nodes branch.node.0) (shifted (sum a t) (sum a u) (branch_rows (rows_table nodes) (branch_at a b branch))) (branch_at a b (seen_moved t u branch))
  pub fits : FitsFrom a b (seen_moved t u branch)

-- what comes of branches behind a gap, as their node sees it: their rows, moved
pub record IsRest {L : Type 0} (w : Widths L) (nodes : List (Shape L)) (gap : Gap) (a b : List ℕ) (seen rest : List Branch) : Type 0 where
  pub rows : LevelRows w nodes nodes seen (shifted gap.to gap.onto (rows_in (rows_table nodes) (Branches seen))) (branches_at a b rest)
  pub fits : All (FitsFrom a b) rest

-- the children of a node behind the last that an exchange opens, and what comes of them
pub record IsBehind {L : Type 0} (w : Widths L) (nodes : List (Shape L)) (gap : Gap) (a b : List ℕ) (seen : List Branch) (front behind : ℕ) (made : List Branch) : Type 0 where
  pub some : front < behind
  pub short : behind ≤ length seen
  pub past : All (λ row. comes_before row.first gap.to ≡ false) (rows_in (rows_table nodes) (Branches (drop behind seen)))
  pub rest : IsRest w nodes gap a b (drop behind seen) made

-- ---- the children of a node in three parts

-- the children of a node, of which an exchange opens the middle alone
pub record IsTouched {L : Type 0} (w : Widths L) (nodes : List (Shape L)) (gap : Gap) (a b : List ℕ) (seen : List Branch) (touched : Touched) : Type 0 where
  pub behind : IsBehind w nodes gap a b seen touched.front touched.behind touched.rest.items
  pub middle : touched.branches.items ≡ drop touched.front (take touched.behind seen)
  pub front : All (λ row. comes_before row.first gap.from ≡ true) (rows_in (rows_table nodes) (Branches (take touched.front seen)))

-- the middle lies within, and what comes of those behind it fits
pub record LiesWithin (a b : List ℕ) (branches : List Branch) (touched : Touched) : Type 0 where
  pub some : touched.front < touched.behind
  pub short : touched.behind ≤ length branches
  pub rest : All (FitsFrom a b) touched.rest.items

-- all children after an exchange: where all stand at their places, and as they are seen from their node
abbrev pub with_middle : List ℕ → List ℕ → List Branch → Touched → List Branch
with_middle a b seen touched = take touched.front seen ++ (touched.branches.items ++ branches_at a b touched.rest.items)

abbrev pub around_middle : List ℕ → List ℕ → List Branch → Touched → List Branch
around_middle a b branches touched = take touched.front branches ++ (map (branch_back a b) touched.branches.items ++ touched.rest.items)

-- a new node with these children, or none where they have no rows
abbrev pub MayBePacked : {L : Type 0} → Widths L → List (Shape L) → List (Shape L) → Shape L → Option Branch → Type 0
MayBePacked w old new node (Some branch) = IsPacked w old new node branch
MayBePacked w old new node None = rows_in (rows_table old) node ≡ []

-- what stands behind a gap does not move, or to a coordinate behind an origin
abbrev pub StaysPast : List ℕ → Gap → Type 0
StaysPast origin gap = (gap.to ≡ gap.onto) ⊎ StandsBefore origin gap.onto

-- rows that come into a bottom node, and those that move in it, stand behind its origin
pub record KeepsOrigin {L : Type 0} (a b : List ℕ) (gap : Gap) (new : List (Row L)) : Type 0 where
  pub stays : StaysPast a gap
  pub first : All (λ row. StandsBefore a row.first) new
  pub second : All (λ row. StandsBefore b row.second) new

-- How rows come in together: a group goes into one gap between the rows of a tree. Only private functions cite these.
use Rattle.std.specs.Prelude.{◌≡◌, ℕ, false, List, [], ◌∷◌, All}
use Rattle.tumbler.specs.Places.{IsUpTo, comes_before}
use Rattle.enfilade_core.specs.declared.tree.Row.{Row}
use Rattle.enfilade_core.specs.Axes.{InOrder}
use Rattle.enfilade_core.specs.Edits.{put_before}

-- a row is at or past a place
abbrev pub IsPast : {L : Type 0} → List ℕ → Row L → Type 0
IsPast at r = IsUpTo at r.first

-- if the row r is not before a place, it is at or past the row n
abbrev pub IsBehind : {L : Type 0} → List ℕ → Row L → Row L → Type 0
IsBehind at n r = comes_before r.first at ≡ false → IsUpTo n.first r.first

-- all rows that are not before a place are at or past the row n
abbrev pub AreBehind : {L : Type 0} → List ℕ → List (Row L) → Row L → Type 0
AreBehind at rows n = All (IsBehind at n) rows

-- rows come in at a place, and are up to those behind it
pub record FitIn {L : Type 0} (at : List ℕ) (new rows : List (Row L)) : Type 0 where
  pub ordered : InOrder new
  pub past : All (IsPast at) new
  pub up_to : All (AreBehind at rows) new

-- a row that is not before the one place is at or past the other
abbrev pub IsAcross : {L : Type 0} → List ℕ → List ℕ → Row L → Type 0
IsAcross from to row = comes_before row.first from ≡ false → IsUpTo to row.first

-- a group comes in where its first row stands
abbrev pub with_group : {L : Type 0} → List (Row L) → List (Row L) → List (Row L)
with_group [] rows = rows
with_group (first ∷ group) rows = put_before first.first (first ∷ group) rows

-- a group that can come in there
abbrev pub FitsAsGroup : {L : Type 0} → List (Row L) → List (Row L) → Type 0
FitsAsGroup [] rows = Unit {0}
FitsAsGroup (first ∷ group) rows = FitIn first.first (first ∷ group) rows

-- no row stands between a group's first row and a place
abbrev pub LeavesRoom : {L : Type 0} → List ℕ → List (Row L) → List (Row L) → Type 0
LeavesRoom to [] rows = Unit {0}
LeavesRoom to (first ∷ group) rows = All (IsAcross first.first to) rows

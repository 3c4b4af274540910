-- The two axes, the widths of rows on them, and how far rows reach.
use Rattle.std.specs.Prelude.{◌≡◌, ◌≢◌, ℕ, Bool, IsTrue, if◌then◌else◌, List, [], ◌∷◌, length, All}
use Rattle.tumbler.specs.Places.{IsTumbler, EndsWell, IsUpTo, comes_before, sum}
use Rattle.enfilade_core.specs.declared.tree.Row.{Row}
use Rattle.enfilade_core.specs.declared.tree.Branch.{Branch}
use Rattle.enfilade_core.specs.Rows.{moved}

-- the width of a row on each axis, and on which axes widths have to be proper
pub record Widths (L : Type 0) : Type 0 where
  pub first : Row L → List ℕ
  pub second : Row L → List ℕ
  pub first_strict : Bool
  pub second_strict : Bool

-- one of the axes: where rows stand on it and how wide they are, and a branch's displacement and extent
pub record Axis (L : Type 0) : Type 0 where
  pub coordinate : Row L → List ℕ
  pub width : Row L → List ℕ
  pub strict : Bool
  pub origin : Branch → List ℕ
  pub extent : Branch → List ℕ

abbrev pub first_axis : {L : Type 0} → Widths L → Axis L
first_axis w = record { coordinate = λ row. row.first; width = w.first; strict = w.first_strict; origin = λ branch. branch.first; extent = λ branch. branch.first_extent }

abbrev pub second_axis : {L : Type 0} → Widths L → Axis L
second_axis w = record { coordinate = λ row. row.second; width = w.second; strict = w.second_strict; origin = λ branch. branch.second; extent = λ branch. branch.second_extent }

-- on a strict axis no width is zero, and each is as long as its row's coordinate
abbrev pub IsProperOn : {L : Type 0} → Axis L → Row L → Type 0
IsProperOn axis row = IsTrue axis.strict → (axis.width row ≢ []) × (length (axis.width row) ≡ length (axis.coordinate row))

abbrev pub IsProper : {L : Type 0} → Widths L → Row L → Type 0
IsProper w row = IsProperOn (first_axis w) row × IsProperOn (second_axis w) row

-- where an axis is strict, the row's coordinate on it is not zero
pub record StandsOff {L : Type 0} (w : Widths L) (row : Row L) : Type 0 where
  pub first : IsTrue w.first_strict → row.first ≢ []
  pub second : IsTrue w.second_strict → row.second ≢ []

-- the widths of a row stay where it is moved, if its places end well and are not zero where that is strict
abbrev pub WidthsStay : {L : Type 0} → Widths L → Type 0
WidthsStay {L} w = (a b : List ℕ) (row : Row L) → EndsWell row.first → EndsWell row.second → StandsOff w row → (w.first (moved a b row) ≡ w.first row) × (w.second (moved a b row) ≡ w.second row)

-- where a row ends on an axis: its place plus its width
abbrev pub end_on : {L : Type 0} → Axis L → Row L → List ℕ
end_on axis row = sum (axis.coordinate row) (axis.width row)

-- the one of two places that comes later
abbrev pub later : List ℕ → List ℕ → List ℕ
later a b = if comes_before a b then b else a

-- the greatest end of the rows on an axis, or zero where there is none
abbrev pub greatest_end : {L : Type 0} → Axis L → List (Row L) → List ℕ
greatest_end axis [] = []
greatest_end axis (row ∷ rows) = later (end_on axis row) (greatest_end axis rows)

-- each row is at or before the ones behind it on the first axis
abbrev pub InOrder : {L : Type 0} → List (Row L) → Type 0
InOrder [] = Unit {0}
InOrder (row ∷ rows) = All (λ r. IsUpTo row.first r.first) rows × InOrder rows

-- a row whose places, widths and ends are tumblers, and whose widths are as the plane wants them
pub record IsWellFormedRow {L : Type 0} (w : Widths L) (row : Row L) : Type 0 where
  pub first_coordinate : IsTumbler row.first
  pub second_coordinate : IsTumbler row.second
  pub first_width : IsTumbler (w.first row)
  pub second_width : IsTumbler (w.second row)
  pub first_end : IsTumbler (sum row.first (w.first row))
  pub second_end : IsTumbler (sum row.second (w.second row))
  pub proper : IsProper w row

-- well formed rows in order: those that a bottom node, or a tree, may have
pub record IsWellFormedRows {L : Type 0} (w : Widths L) (rows : List (Row L)) : Type 0 where
  pub each : All (IsWellFormedRow w) rows
  pub ordered : InOrder rows

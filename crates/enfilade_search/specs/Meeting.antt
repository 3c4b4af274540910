-- When a row meets a span on an axis.
use Rattle.std.specs.Prelude.{ℕ, ◌&&◌, not, Bool, List, [], ◌∷◌}
use Rattle.tumbler.specs.Places.{comes_before, sum}
use Rattle.tumbler.specs.Span.{end_of}
use Rattle.tumbler.specs.declared.span.Span.{Span}
use Rattle.enfilade_core.specs.declared.tree.Row.{Row}
use Rattle.enfilade_core.specs.Axes.{Axis, later}

-- whether a coordinate is `from` or comes after it, and comes before `to`
abbrev pub lies_between : List ℕ → List ℕ → List ℕ → Bool
lies_between from to coordinate = not (comes_before coordinate from) && comes_before coordinate to

-- whether what begins at a coordinate, and is so wide, has some coordinate from `from` on and before `to`: the later one
-- of both starts comes before both ends. What has no width is at its place alone.
abbrev pub touches : List ℕ → List ℕ → List ℕ → List ℕ → Bool
touches from to coordinate [] = lies_between from to coordinate
touches from to coordinate (x ∷ width) = comes_before (later from coordinate) to && comes_before (later from coordinate) (sum coordinate (x ∷ width))

-- whether a row meets a span on an axis, by what the row takes up on it
abbrev pub meets : {L : Type 0} → Axis L → Span → Row L → Bool
meets axis span row = touches span.start (end_of span) (axis.coordinate row) (axis.width row)

-- What an edit does to the rows of a tree.
use Rattle.std.specs.Prelude.{◌≡◌, ℕ, ◌<◌, Bool, ◌&&◌, not, if◌then◌else◌, Option, Some, None, List, [], ◌∷◌, ◌++◌, map, length}
use Rattle.std.specs.List.{filter}
use Rattle.tumbler.specs.Places.{comes_before, sum, difference}
use Rattle.enfilade_core.specs.declared.tree.Row.{Row}
use Rattle.enfilade_core.specs.Rows.{Shape, rows_of}

-- new rows come in before the first row at or past a coordinate
abbrev pub put_before : {L : Type 0} → List ℕ → List (Row L) → List (Row L) → List (Row L)
put_before at new [] = new
put_before at new (row ∷ rows) = if comes_before row.first at then row ∷ put_before at new rows else new ++ row ∷ rows

-- whether a row stands at or past `from` and before `to`
abbrev pub is_within : {L : Type 0} → List ℕ → List ℕ → Row L → Bool
is_within from to row = not (comes_before row.first from) && comes_before row.first to

-- the rows that a cut takes out, and those that it leaves
abbrev pub taken_out : {L : Type 0} → List ℕ → List ℕ → List (Row L) → List (Row L)
taken_out from to rows = filter (is_within from to) rows

abbrev pub left_by : {L : Type 0} → List ℕ → List ℕ → List (Row L) → List (Row L)
left_by from to rows = filter (λ row. not (is_within from to row)) rows

-- a coordinate before `from` stays, another is as far from `to` as it was from `from`
abbrev pub shift_coordinate : List ℕ → List ℕ → List ℕ → List ℕ
shift_coordinate from to coordinate = if comes_before coordinate from then coordinate else sum to (difference coordinate from)

abbrev pub shift_row : {L : Type 0} → List ℕ → List ℕ → Row L → Row L
shift_row from to row = record row { first = shift_coordinate from to row.first }

abbrev pub shifted : {L : Type 0} → List ℕ → List ℕ → List (Row L) → List (Row L)
shifted from to rows = map (shift_row from to) rows

-- each node that was there has the rows that it had
abbrev pub KeepsRows : {L : Type 0} → List (Shape L) → List (Shape L) → Type 0
KeepsRows old new = (k : ℕ) → k < length old → rows_of new k ≡ rows_of old k

-- a row that was found, or this one
abbrev pub or_else : {L : Type 0} → Option (Row L) → Row L → Option (Row L)
or_else (Some found) row = Some found
or_else None row = Some row

-- the last of the rows that come before a coordinate, where the rows are in order
abbrev pub last_before : {L : Type 0} → List ℕ → List (Row L) → Option (Row L)
last_before at [] = None
last_before at (row ∷ rows) = if comes_before row.first at then or_else (last_before at rows) row else None

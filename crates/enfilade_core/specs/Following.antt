-- Which children may stand behind others, and where rows begin and end. Only private functions cite this.
use Rattle.std.specs.Prelude.{◌≡◌, ◌⊎◌, ℕ, List, [], ◌∷◌}
use Rattle.tumbler.specs.Places.{IsUpTo}
use Rattle.enfilade_core.specs.declared.tree.Row.{Row}
use Rattle.enfilade_core.specs.declared.summary.Summary.{Summary}

-- a part stands behind what was gone through: nothing was, or it is equally deep and no row is before the last one
abbrev pub Follows : Summary → Summary → Type 0
Follows s part = (s.leaves ≡ 0) ⊎ ((s.height ≡ part.height) × IsUpTo s.last part.first)

-- where the first of the rows stands on the first axis, and where the last one does
abbrev pub first_coordinate : {L : Type 0} → List (Row L) → List ℕ
first_coordinate [] = []
first_coordinate (row ∷ rows) = row.first

abbrev pub last_coordinate : {L : Type 0} → List (Row L) → List ℕ
last_coordinate [] = []
last_coordinate (row ∷ []) = row.first
last_coordinate (row ∷ next ∷ rows) = last_coordinate (next ∷ rows)

-- a summary with another coordinate for its last row
abbrev pub with_last : List ℕ → Summary → Summary
with_last coordinate s = record s { last = coordinate }

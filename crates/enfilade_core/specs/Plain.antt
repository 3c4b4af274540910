-- Children as a contract sees them, without what their lists keep in reserve.
use Rattle.std.specs.Prelude.{ℕ, map, length}
use Rattle.enfilade_core.specs.declared.tree.Row.{Row}
use Rattle.enfilade_core.specs.declared.find_before.RowAt.{RowAt}
use Rattle.enfilade_core.specs.declared.tree.Children.{Children}
use Rattle.enfilade_core.specs.declared.tree.Children.TheVariants.{Bottom, Inner}
use Rattle.enfilade_core.specs.Rows.{Shape, Rows, Branches}

abbrev pub plain_row : {L : Type 0} → (L → L) → Row L → Row L
plain_row plain row = record row { leaf = plain row.leaf }

abbrev pub shape : {L : Type 0} → (L → L) → Children L → Shape L
shape plain (Bottom rows) = Rows (map (plain_row plain) rows.items)
shape plain (Inner branches) = Branches branches.items

-- how many children hang somewhere
abbrev pub children_count : {L : Type 0} → Children L → ℕ
children_count (Bottom rows) = length rows.items
children_count (Inner branches) = length branches.items

-- a row that was found
abbrev pub found_row : {L : Type 0} → (L → L) → RowAt L → Row L
found_row plain found = record { first = found.first; second = found.second; leaf = plain found.leaf.now }

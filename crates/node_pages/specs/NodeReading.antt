-- Reading a node from left to right: the node and the bytes after it, or nothing.
use Rattle.std.specs.Prelude.{ℕ, ◌==◌, List, [], Option, Some, None, nat_lt, if◌then◌else◌}
use Rattle.tumbler.specs.ListView.{ListView}
use Rattle.febe_fields.specs.Reading.{◌>>=◌}
use Rattle.disk_fields.specs.Reading.{u8_at, u32_at, u64_at, tumbler_at, text_at, both_at, made_at, counted_at}
use Rattle.enfilade_core.specs.declared.tree.Row.{Row}
use Rattle.enfilade_core.specs.declared.tree.Branch.{Branch}
use Rattle.enfilade_core.specs.Rows.{Shape, Rows, Branches}

-- ---- rows

abbrev pub content_row_of : List ℕ × List ℕ → Row (ListView ℕ)
content_row_of parts = record { first = parts.0; second = []; leaf = record { items = parts.1; spare = 0 } }

unfoldable pub content_row_at : List ℕ → Option (Row (ListView ℕ) × List ℕ)
content_row_at bytes = made_at content_row_of (both_at tumbler_at text_at) bytes

abbrev pub text_row_of : List ℕ × (List ℕ × ℕ) → Row ℕ
text_row_of parts = record { first = parts.0; second = parts.1.0; leaf = parts.1.1 }

unfoldable pub text_row_at : List ℕ → Option (Row ℕ × List ℕ)
text_row_at bytes = made_at text_row_of (both_at tumbler_at (both_at tumbler_at u32_at)) bytes

abbrev pub key_row_of : List ℕ × (List ℕ × List ℕ) → Row (List ℕ)
key_row_of parts = record { first = parts.0; second = parts.1.0; leaf = parts.1.1 }

unfoldable pub key_row_at : List ℕ → Option (Row (List ℕ) × List ℕ)
key_row_at bytes = made_at key_row_of (both_at tumbler_at (both_at tumbler_at tumbler_at)) bytes

-- ---- nodes

-- the number of an earlier node, where there are so many
unfoldable pub earlier_at : ℕ → List ℕ → Option (ℕ × List ℕ)
earlier_at before bytes = do
  number ← u64_at bytes
  if nat_lt number.0 before then Some (number.0, number.1) else None

abbrev pub branch_of : ℕ × (List ℕ × (List ℕ × (List ℕ × List ℕ))) → Branch
branch_of parts = record { node = record { 0 = parts.0 }; first = parts.1.0; second = parts.1.1.0; first_extent = parts.1.1.1.0; second_extent = parts.1.1.1.1 }

unfoldable pub branch_at : ℕ → List ℕ → Option (Branch × List ℕ)
branch_at before bytes = made_at branch_of (both_at (earlier_at before) (both_at tumbler_at (both_at tumbler_at (both_at tumbler_at tumbler_at)))) bytes

-- a node that comes after so many others
unfoldable pub shape_at : {L : Type 0} → (List ℕ → Option (Row L × List ℕ)) → ℕ → List ℕ → Option (Shape L × List ℕ)
shape_at row_at before bytes = do
  kind ← u8_at bytes
  if kind.0 == 0 then made_at Rows (counted_at row_at) kind.1 else (if kind.0 == 1 then made_at Branches (counted_at (branch_at before)) kind.1 else None)

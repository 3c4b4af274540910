-- Bytes at so many addresses from a start on, and that one row has them all.
use Rattle.std.specs.Prelude.{◌≡◌, ◌≢◌, ℕ, ◌+◌, ◌≤◌, List, [], ◌∷◌, ◌++◌, length, take, drop}
use Rattle.tumbler.specs.ListView.{ListView}
use Rattle.tumbler.specs.Places.{width_at}
use Rattle.tumbler.specs.declared.span.Span.{Span}
use Rattle.enfilade_core.specs.declared.tree.Row.{Row}
use Rattle.granfilade.specs.Content.{so_far_on}

-- so many addresses from a start on
abbrev pub span_from : List ℕ → ℕ → Span
span_from start count = record { start = start; width = width_at (length start) count }

-- one of the rows has so many bytes from a start on
pub record HasWhole (rows : List (Row (ListView ℕ))) (start : List ℕ) (count : ℕ) (bytes : List ℕ) : Type 0 where
  pub front : List (Row (ListView ℕ))
  pub row : Row (ListView ℕ)
  pub back : List (Row (ListView ℕ))
  pub parts : rows ≡ front ++ row ∷ back
  pub filled : row.first ≢ []
  pub from : ℕ
  pub begins : start ≡ so_far_on row.first from
  pub within : from + count ≤ length row.leaf.items
  pub is : bytes ≡ take count (drop from row.leaf.items)

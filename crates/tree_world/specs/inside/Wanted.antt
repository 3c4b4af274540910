-- What of a document's text is wanted, row by row.
use Rattle.std.specs.Prelude.{◌≡◌, ℕ, ◌<◌, List, [], ◌∷◌, if◌then◌else◌}
use Rattle.std.specs.List.{flat_map}
use Rattle.granfilade.specs.Content.{ByteAt}
use Rattle.enfilade_core.specs.declared.tree.Row.{Row}
use Rattle.poom.specs.Pieces.{stands_in, piece_addresses}
use Rattle.poom.specs.Positions.{clip}
use Rattle.tree_world.specs.declared.text_reading.Wanted.{Wanted}
use Rattle.tree_world.specs.inside.Seen.{bytes_found}

-- something is, and its ends are told by their V-addresses too
pub record IsWanted (wanted : Wanted) : Type 0 where
  pub order : wanted.from < wanted.to
  pub start : wanted.start ≡ 1 ∷ wanted.from ∷ []
  pub end : wanted.end ≡ 1 ∷ wanted.to ∷ []

-- the addresses that a row shows in the text from position `from` on and before position `to`
abbrev pub row_between : ℕ → ℕ → Row ℕ → List (List ℕ)
row_between from to row = if stands_in 1 row then piece_addresses 1 (clip from to row) else []

-- the bytes that rows do
abbrev pub bytes_between : List ByteAt → ℕ → ℕ → List (Row ℕ) → List ℕ
bytes_between held from to rows = bytes_found held (flat_map (row_between from to) rows)

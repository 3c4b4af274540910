-- What rows show, address by address.
use Rattle.std.specs.Prelude.{◌≡◌, ℕ, List}
use Rattle.std.specs.List.{flat_map}
use Rattle.tumbler.specs.Places.{place}
use Rattle.enfilade_core.specs.declared.tree.Row.{Row}
use Rattle.poom.specs.Pieces.{piece_addresses, row_piece}
use Rattle.poom.specs.Laid as laid

-- the addresses that a row shows: those of its piece, in the part where the row stands
abbrev pub row_addresses : Row ℕ → List (List ℕ)
row_addresses row = piece_addresses (place row.first 0) (row_piece row)

-- those of rows, row by row
abbrev pub addresses_of : List (Row ℕ) → List (List ℕ)
addresses_of rows = flat_map row_addresses rows

-- how many a row shows
abbrev pub address_count : Row ℕ → ℕ
address_count row = row.leaf

-- two documents show the same text, and the same links
pub record ShowSame (rows others : List (Row ℕ)) : Type 0 where
  pub texts : laid.texts rows ≡ laid.texts others
  pub links : laid.links rows ≡ laid.links others

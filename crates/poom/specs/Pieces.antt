-- Pieces of content and of the links made in a document, the rows of a tree that stand for them, and their
-- addresses one by one.
use Rattle.std.specs.Prelude.{ℕ, zero, suc, ◌+◌, ◌-◌, ◌^◌, ◌<◌, ◌≤◌, ◌==◌, Bool, List, [], ◌∷◌, ◌++◌, length, take, map}
use Rattle.std.specs.List.{filter, flat_map}
use Rattle.tumbler.specs.Places.{IsTumbler, place}
use Rattle.tumbler.specs.Address.{IsDocument}
use Rattle.enfilade_core.specs.declared.tree.Row.{Row}
use Rattle.poom.specs.declared.piece.Piece.{Piece}

-- byte or link n of a document: bytes are in part 1, links in part 2
abbrev pub address_in : ℕ → List ℕ → ℕ → List ℕ
address_in part document n = document ++ 0 ∷ part ∷ n ∷ []

-- so many addresses of a document, from number `first` on
abbrev pub addresses_from : ℕ → List ℕ → ℕ → ℕ → List (List ℕ)
addresses_from part document first zero = []
addresses_from part document first (suc count) = address_in part document first ∷ addresses_from part document (first + 1) count

-- the addresses of a piece
abbrev pub piece_addresses : ℕ → Piece → List (List ℕ)
piece_addresses part piece = addresses_from part piece.document piece.first piece.count

-- pieces, laid out address by address
abbrev pub laid : ℕ → List Piece → List (List ℕ)
laid part pieces = flat_map (piece_addresses part) pieces

-- how many addresses pieces have together
abbrev pub total : List Piece → ℕ
total [] = 0
total (piece ∷ pieces) = piece.count + total pieces

-- a piece has one address or more, and all of them are addresses of a document's bytes or links
pub record IsPiece (piece : Piece) : Type 0 where
  pub document : IsDocument piece.document
  pub is_tumbler : IsTumbler piece.document
  pub from_one : 1 ≤ piece.first
  pub filled : 1 ≤ piece.count
  pub fits : piece.first + piece.count < 2 ^ 32

-- the row of a piece that stands at `part.n`
abbrev pub piece_row : ℕ → ℕ → Piece → Row ℕ
piece_row part n piece = record { first = part ∷ n ∷ []; second = address_in part piece.document piece.first; leaf = piece.count }

-- the rows of pieces one after another, the first one at `part.n`
abbrev pub rows_from : ℕ → ℕ → List Piece → List (Row ℕ)
rows_from part n [] = []
rows_from part n (piece ∷ pieces) = piece_row part n piece ∷ rows_from part (n + piece.count) pieces

-- whether the row stands in this part
abbrev pub stands_in : ℕ → Row ℕ → Bool
stands_in part row = place row.first 0 == part

-- the piece that a row stands for
abbrev pub row_piece : Row ℕ → Piece
row_piece row = record { document = take (length row.second - 3) row.second; first = place row.second (length row.second - 1); count = row.leaf }

-- the pieces of a part's rows
abbrev pub pieces_in : ℕ → List (Row ℕ) → List Piece
pieces_in part rows = map row_piece (filter (stands_in part) rows)

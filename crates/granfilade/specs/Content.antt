-- Contents: bytes, each at an address of its own.
use Rattle.std.specs.Prelude.{ℕ, ◌+◌, ◌&&◌, not, Bool, List, [], ◌∷◌, length, map}
use Rattle.std.specs.List.{filter, flat_map}
use Rattle.tumbler.specs.ListView.{ListView}
use Rattle.tumbler.specs.Places.{comes_before, sum, width_at}
use Rattle.tumbler.specs.Span.{end_of}
use Rattle.tumbler.specs.declared.span.Span.{Span}
use Rattle.enfilade_core.specs.declared.tree.Row.{Row}
use Rattle.enfilade_core.specs.Rows.{Shape, rows_of}

-- a byte, and the address at which it stands
pub record ByteAt : Type 0 where
  pub address : List ℕ
  pub byte : ℕ

-- the address that comes so many after this one: that many more at its last place
abbrev pub so_far_on : List ℕ → ℕ → List ℕ
so_far_on start k = sum start (width_at (length start) k)

-- bytes one after another, of which the first is the k-th from a start on, counted from 0
abbrev pub laid_from : List ℕ → ℕ → List ℕ → List ByteAt
laid_from start k [] = []
laid_from start k (byte ∷ bytes) = record { address = so_far_on start k; byte = byte } ∷ laid_from start (k + 1) bytes

-- bytes laid out from a start on
abbrev pub laid : List ℕ → List ℕ → List ByteAt
laid start bytes = laid_from start 0 bytes

-- the bytes of a row, laid out from where the row stands
abbrev pub laid_row : Row (ListView ℕ) → List ByteAt
laid_row row = laid row.first row.leaf.items

-- the bytes of rows, laid out row by row
abbrev pub laid_out : List (Row (ListView ℕ)) → List ByteAt
laid_out rows = flat_map laid_row rows

-- a tree of an arena: the nodes that are there, and the tree's root
pub record ContentTree : Type 0 where
  pub nodes : List (Shape (ListView ℕ))
  pub root : ℕ

abbrev pub tree_rows : ContentTree → List (Row (ListView ℕ))
tree_rows tree = rows_of tree.nodes tree.root

-- what a tree holds, byte by byte
abbrev pub content : ContentTree → List ByteAt
content tree = laid_out (tree_rows tree)

-- whether an address is the span's start or comes after it, and comes before the span's end
abbrev pub lies_in : Span → List ℕ → Bool
lies_in span address = not (comes_before address span.start) && comes_before address (end_of span)

-- the bytes whose address is in the span, in the order in which they stand
abbrev pub bytes_in : Span → List ByteAt → List ℕ
bytes_in span bytes = map (λ at. at.byte) (filter (λ at. lies_in span at.address) bytes)

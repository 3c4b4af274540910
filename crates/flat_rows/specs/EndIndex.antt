-- The bytes of runs, by the documents whose content they are.
use Rattle.std.specs.Prelude.{◌≡◌, ℕ, ◌+◌, ◌&&◌, ◌||◌, Bool, List, [], Option, Some, None, filter, nat_le, nat_lt}
use Rattle.std.specs.List.{list_any}
use Rattle.std.specs.BTreeMap.{BTreeMap, get}
use Rattle.std.specs.Ordering.{nat_cmp}
use Rattle.std.specs.Cmp.Lexicographic.{slice_cmp}
use Rattle.febe_data.specs.ListView.{ListView}
use Rattle.febe_data.specs.Plain.{PlainSpec}
use Rattle.world_rules.specs.declared.rows.Row.{Row}
use Rattle.flat_rows.specs.declared.end_index.Piece.{Piece}
use Rattle.world_rules.specs.declared.ends.End.{End}
use Rattle.world_rules.specs.World.{World, LinkRow}
use Rattle.world_rules.specs.Readable.{is_readable_by}
use Rattle.world_rules.specs.Picking.{content_of, number_of, is_in_runs, picked_once, places_of, intervals}
use Rattle.world_rules.specs.Ends.{runs_of_end}

-- the number is that of one of the piece's bytes
abbrev pub is_in_piece : ℕ → Piece → Bool
is_in_piece number piece = nat_le piece.first number && nat_lt number (piece.first + piece.length)

abbrev pub items_of_pieces : Option (ListView Piece) → List Piece
items_of_pieces (Some pieces) = pieces.items
items_of_pieces None = []

-- the pieces of a document's content
abbrev pub pieces_of : BTreeMap (List ℕ) (ListView Piece) → List ℕ → List Piece
pieces_of index content = items_of_pieces (get (slice_cmp nat_cmp) index content)

-- the address is that of a byte of some piece
abbrev pub is_indexed : BTreeMap (List ℕ) (ListView Piece) → List ℕ → Bool
is_indexed index address = list_any (is_in_piece (number_of address)) (pieces_of index (content_of address))

-- the address is in that end of the link, whose home the account reads
abbrev pub is_in_end_by : (published : List (List ℕ)) → Option (List ℕ) → End → LinkRow → List ℕ → Bool
is_in_end_by published account end link address = is_readable_by published account link.home && is_in_runs (runs_of_end end link) address

-- it has the bytes that pass the test, and no others
abbrev pub Indexes : (List ℕ → Bool) → BTreeMap (List ℕ) (ListView Piece) → Type 0
Indexes test index = (address : List ℕ) → is_indexed index address ≡ test address

-- it has come to have these bytes too
abbrev pub IndexesMore : (List ℕ → Bool) → (old new : BTreeMap (List ℕ) (ListView Piece)) → Type 0
IndexesMore test old new = Indexes (λ address. is_indexed old address || test address) new

-- which of the text that the spec picks the index has
abbrev pub indexed_of : World → BTreeMap (List ℕ) (ListView Piece) → PlainSpec → PlainSpec
indexed_of world index spec = record { document = spec.document; spans = intervals (places_of (filter (λ (row : Row). is_indexed index row.address) (picked_once world spec))) }

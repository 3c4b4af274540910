-- How rows are gone through. Only private functions cite this.
use Rattle.std.specs.Prelude.{◌≡◌, true, false, ◌≢◌, ◌↔◌, ℕ, ◌+◌, ◌<◌, ◌≤◌, List, [], ◌∷◌, ◌++◌, length, All}
use Rattle.std.specs.List.{Contains}
use Rattle.std.specs.Ordering.{nat_cmp}
use Rattle.std.specs.BTreeSet.{BTreeSet, contains}
use Rattle.tumbler.specs.ListView.{ListView}
use Rattle.enfilade_core.specs.declared.tree.Row.{Row}
use Rattle.enfilade_core.specs.Rows.{Shape}
use Rattle.granfilade.specs.Puts.{most_leaf_bytes, IsLeaf}
use Rattle.page_tables.specs.declared.tables.TableDocument.{TableDocument}
use Rattle.page_tables.specs.Plain.{PlainTables}
use Rattle.poom.specs.Laid.{IsOneDocument, texts, links}
use Rattle.poom.specs.declared.piece.Piece.{Piece}
use Rattle.poom.specs.Pieces.{IsPiece, address_in, piece_addresses, total, rows_from, stands_in}
use Rattle.content_checks.specs.declared.shown.Shown.{Shown}
use Rattle.content_checks.specs.Listed.{bytes_of, listed_bytes, listed_ids}
use Rattle.content_checks.specs.Sound.{byte_addresses, IsShown}

-- ---- contents

-- rows of some bytes each, at these addresses
pub record HaveBytes (rows : List (Row (ListView ℕ))) (addresses : List (List ℕ)) : Type 0 where
  pub leaves : All IsLeaf rows
  pub are : byte_addresses rows ≡ addresses

-- behind so many of a document's bytes the row has its next ones, and then there are `now` of them
pub record HasNext (document : TableDocument) (done : ℕ) (row : Row (ListView ℕ)) (now : ℕ) : Type 0 where
  pub first : row.first ≡ address_in 1 document.document (done + 1)
  pub second : row.second ≡ []
  pub filled : 0 < length row.leaf.items
  pub short : length row.leaf.items ≤ most_leaf_bytes
  pub now_is : now ≡ done + length row.leaf.items
  pub fits : now ≤ document.content

-- these addresses don't begin with one of the document's bytes
abbrev pub BeginsElsewhere : List ℕ → List (List ℕ) → Type 0
BeginsElsewhere document addresses = (n : ℕ) (rest : List (List ℕ)) → addresses ≢ address_in 1 document n ∷ rest

-- the rows have these bytes and then others exactly where the rest of them has those others
abbrev pub HaveInFront : List (List ℕ) → (rows rest : List (Row (ListView ℕ))) → Type 0
HaveInFront addresses rows rest = (more : List (List ℕ)) → HaveBytes rows (addresses ++ more) ↔ HaveBytes rest more

-- the rows don't have the document's bytes in front of any that are not its own
abbrev pub HaveNotInFront : TableDocument → List (Row (ListView ℕ)) → Type 0
HaveNotInFront document rows = (more : List (List ℕ)) → BeginsElsewhere document.document more → ¬ HaveBytes rows (bytes_of document ++ more)

-- ---- documents

-- what was read of a row, as a piece
abbrev pub piece_of : Shown → Piece
piece_of shown = record { document = shown.document; first = shown.first; count = shown.count }

-- the row's second place and its leaf are those of the piece
pub record Shows (part : ℕ) (row : Row ℕ) (piece : Piece) : Type 0 where
  pub place : row.second ≡ address_in part piece.document piece.first
  pub leaf : row.leaf ≡ piece.count
  pub right : IsPiece piece

-- the row is the piece of a part that begins at position n; the one behind it begins at `next`, at most one past the most
pub record HasPiece (part most n : ℕ) (row : Row ℕ) (next : ℕ) : Type 0 where
  pub first : row.first ≡ part ∷ n ∷ []
  pub piece : Piece
  pub shows : Shows part row piece
  pub next_is : next ≡ n + row.leaf
  pub fits : next ≤ most + 1

-- no row of the part comes first
abbrev pub BeginsBehind : ℕ → List (Row ℕ) → Type 0
BeginsBehind part [] = Unit {0}
BeginsBehind part (row ∷ rows) = stands_in part row ≡ false

-- the rows are pieces of a part, from position n on, and then the rest
pub record HasPart (part most n : ℕ) (rows rest : List (Row ℕ)) : Type 0 where
  pub pieces : List Piece
  pub parts : rows ≡ rows_from part n pieces ++ rest
  pub each : All IsPiece pieces
  pub fits : n + total pieces ≤ most + 1
  pub behind : BeginsBehind part rest

-- the rest is all that is behind the part
abbrev pub IsBehindPart : (part most : ℕ) → (rows rest : List (Row ℕ)) → Type 0
IsBehindPart part most rows rest = (other : List (Row ℕ)) → HasPart part most 1 rows other ↔ (other ≡ rest)

-- all that the row shows of a part is listed
abbrev pub IsBacked : ℕ → List (List ℕ) → Row ℕ → Type 0
IsBacked part listed row = (piece : Piece) → Shows part row piece → All (Contains listed) (piece_addresses part piece)

-- the rows are those of a document, and all that they show is listed
pub record AreShown (tables : PlainTables) (rows : List (Row ℕ)) : Type 0 where
  pub document : IsOneDocument rows
  pub text : All (Contains (listed_bytes tables.documents)) (texts rows)
  pub link : All (Contains (listed_ids tables.links)) (links rows)

-- all roots of a set are right
abbrev pub AreRight : List (Shape ℕ) → PlainTables → BTreeSet ℕ → Type 0
AreRight nodes tables seen = (k : ℕ) → contains nat_cmp seen k ≡ true → IsShown nodes tables k

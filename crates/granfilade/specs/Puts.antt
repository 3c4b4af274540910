-- What a put asks of where it begins, and what it does.
use Rattle.std.specs.Prelude.{◌≡◌, ℕ, ◌<◌, ◌≤◌, if◌then◌else◌, List, [], ◌∷◌, ◌++◌, length, All}
use Rattle.tumbler.specs.ListView.{ListView}
use Rattle.tumbler.specs.Address.{IsDocument}
use Rattle.tumbler.specs.Places.{IsBefore, IsUpTo, comes_before}
use Rattle.enfilade_core.specs.declared.tree.Row.{Row}
use Rattle.granfilade.specs.Content.{ByteAt, so_far_on}

-- the most bytes that a row may have
abbrev pub most_leaf_bytes : ℕ
most_leaf_bytes = 1024

-- a content byte of a document is `document.0.1.n`, n from 1
pub record IsByteOf (address document : List ℕ) : Type 0 where
  pub number : ℕ
  pub parts : address ≡ document ++ 0 ∷ 1 ∷ number ∷ []
  pub counted : 0 < number
  pub document_address : IsDocument document

-- the address of a content byte
abbrev pub IsByteAddress : List ℕ → Type 0
IsByteAddress address = (document : List ℕ) × IsByteOf address document

-- an address that begins as those of a document's content bytes do
pub record IsBelow (address document : List ℕ) : Type 0 where
  pub rest : List ℕ
  pub parts : address ≡ document ++ 0 ∷ 1 ∷ rest

-- where a document's next bytes go: the address of a content byte, above all that is there in the document
pub record IsNext (start : List ℕ) (bytes : List ByteAt) : Type 0 where
  pub document : List ℕ
  pub address : IsByteOf start document
  pub above : All (λ at. IsBelow at.address document → IsBefore at.address start) bytes

-- new bytes come in before the first byte at or past the start
abbrev pub put_in : List ℕ → List ByteAt → List ByteAt → List ByteAt
put_in start new [] = new
put_in start new (at ∷ bytes) = if comes_before at.address start then at ∷ put_in start new bytes else new ++ at ∷ bytes

-- new bytes came in at one place; all others stand as before, in front of them or behind
pub record ComesIn (new old made : List ByteAt) : Type 0 where
  pub front : List ByteAt
  pub back : List ByteAt
  pub was : old ≡ front ++ back
  pub is : made ≡ front ++ new ++ back

-- ---- what holds of the rows where all that came in was put

-- a row of some bytes, but not too many, from a content byte's address on; on the second axis it is at zero
pub record IsLeaf (row : Row (ListView ℕ)) : Type 0 where
  pub document : List ℕ
  pub address : IsByteOf row.first document
  pub second : row.second ≡ []
  pub filled : 0 < length row.leaf.items
  pub short : length row.leaf.items ≤ most_leaf_bytes

-- the address after a row's last byte
abbrev pub end_of_row : Row (ListView ℕ) → List ℕ
end_of_row row = so_far_on row.first (length row.leaf.items)

-- each row stands at or past what is said of each one in front of it
abbrev pub Linked : (Row (ListView ℕ) → List ℕ) → List (Row (ListView ℕ)) → Type 0
Linked said [] = Unit {0}
Linked said (row ∷ rows) = All (λ r. IsUpTo (said row) r.first) rows × Linked said rows

-- each row begins at or past the ends of those in front
pub record IsContent (rows : List (Row (ListView ℕ))) : Type 0 where
  pub leaves : All IsLeaf rows
  pub apart : Linked end_of_row rows

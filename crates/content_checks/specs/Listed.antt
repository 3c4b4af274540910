-- What tables list: documents with their bytes of content, and links.
use Rattle.std.specs.Prelude.{ℕ, ◌≤◌, List, map, All}
use Rattle.std.specs.List.{Contains, flat_map}
use Rattle.std.specs.Ordering.{nat_cmp}
use Rattle.std.specs.Cmp.Lexicographic.{slice_cmp}
use Rattle.std.specs.List.Sorted.{IsStrictlySortedBy}
use Rattle.tumbler.specs.Address.{IsDocument}
use Rattle.page_tables.specs.declared.tables.TableDocument.{TableDocument}
use Rattle.page_tables.specs.Plain.{PlainLink}
use Rattle.poom.specs.Pieces.{address_in, addresses_from}

-- the content bytes that a document has: number 1 and on, as many as the table says
abbrev pub bytes_of : TableDocument → List (List ℕ)
bytes_of row = addresses_from 1 row.document 1 row.content

-- those of all documents, one document after another
abbrev pub listed_bytes : List TableDocument → List (List ℕ)
listed_bytes documents = flat_map bytes_of documents

-- the addresses of documents
abbrev pub listed_documents : List TableDocument → List (List ℕ)
listed_documents documents = map (λ (row : TableDocument). row.document) documents

-- the ids of links
abbrev pub listed_ids : List PlainLink → List (List ℕ)
listed_ids links = map (λ (link : PlainLink). link.id) links

-- documents ascend, each once, and each has a document's address
pub record AreDocuments (documents : List TableDocument) : Type 0 where
  pub addresses : All (λ (row : TableDocument). IsDocument row.document) documents
  pub ascend : IsStrictlySortedBy (slice_cmp nat_cmp) (listed_documents documents)

-- Links ascend by their ids, each once. Where link n of a home is there, so are those of that home with lesser numbers,
-- from 1 on.
pub record AreLinks (links : List PlainLink) : Type 0 where
  pub ascend : IsStrictlySortedBy (slice_cmp nat_cmp) (listed_ids links)
  pub numbered : (home : List ℕ) (n m : ℕ) → Contains (listed_ids links) (address_in 2 home n) → 1 ≤ m → m ≤ n → Contains (listed_ids links) (address_in 2 home m)

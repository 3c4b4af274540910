-- What the table of documents shows: the rows that came in and were not taken back, each once and in ascending order of documents.
use Rattle.std.specs.Prelude.{ℕ, length, ◌++◌, ◌∷◌, ◌&&◌, Bool, false, if◌then◌else◌, nat_lt, not, List, [], map, filter, Option}
use Rattle.std.specs.List.{find, list_any}
use Rattle.std.specs.Option.{option_map, unwrap_or}
use Rattle.std.specs.declared.cmp.Ordering.{Ordering}
use Rattle.std.specs.Ordering.{nat_cmp}
use Rattle.std.specs.Cmp.Lexicographic.{slice_cmp}
use Rattle.std.specs.BTreeSet.{insert_key}
use Rattle.doc_table.specs.declared.rows.DocumentRow.{DocumentRow}
use Rattle.world_rules.specs.World.{is_same, is_of_account, next_below}

-- the most documents that a table holds
abbrev pub most_documents : ℕ
most_documents = 4294967294

module _ {R : Type 0} where
  -- the row is the document's
  abbrev pub is_of : List ℕ → DocumentRow R → Bool
  is_of document row = is_same row.document document

  -- the documents, ascending
  abbrev pub documents_in : List (DocumentRow R) → List (List ℕ)
  documents_in rows = map (λ (row : DocumentRow R). row.document) rows

  -- ---- look-ups

  abbrev pub has_in : List (DocumentRow R) → List ℕ → Bool
  has_in rows document = list_any (is_of document) rows

  abbrev pub root_in : List (DocumentRow R) → List ℕ → Option R
  root_in rows document = option_map (λ (row : DocumentRow R). row.root) (find (is_of document) rows)

  -- how many content bytes were set for the document, 0 where it is not there
  abbrev pub content_in : List (DocumentRow R) → List ℕ → ℕ
  content_in rows document = unwrap_or (option_map (λ (row : DocumentRow R). row.content) (find (is_of document) rows)) 0

  -- whether the document is published, and false where it is not there
  abbrev pub published_in : List (DocumentRow R) → List ℕ → Bool
  published_in rows document = unwrap_or (option_map (λ (row : DocumentRow R). row.published) (find (is_of document) rows)) false

  -- ---- changes

  abbrev pub row_cmp : DocumentRow R → DocumentRow R → Ordering
  row_cmp a b = slice_cmp nat_cmp a.document b.document

  -- the document comes in at its place, and is not published yet
  abbrev pub added : List (DocumentRow R) → List ℕ → R → List (DocumentRow R)
  added rows document root = insert_key row_cmp rows (record { document = document; root = root; content = 0; published = false })

  -- it goes
  abbrev pub removed : List (DocumentRow R) → List ℕ → List (DocumentRow R)
  removed rows document = filter (λ (row : DocumentRow R). not (is_of document row)) rows

  -- it gets another root, another number of content bytes, or another mark
  abbrev pub with_root : List (DocumentRow R) → List ℕ → R → List (DocumentRow R)
  with_root rows document root = map (λ (row : DocumentRow R). if is_of document row then record row { root = root } else row) rows

  -- the k-th document gets the k-th root; those behind the last root stay
  abbrev pub with_roots : List R → List (DocumentRow R) → List (DocumentRow R)
  with_roots [] rows = rows
  with_roots (root ∷ roots) [] = []
  with_roots (root ∷ roots) (row ∷ rows) = record row { root = root } ∷ with_roots roots rows

  abbrev pub with_content : List (DocumentRow R) → List ℕ → ℕ → List (DocumentRow R)
  with_content rows document bytes = map (λ (row : DocumentRow R). if is_of document row then record row { content = bytes } else row) rows

  abbrev pub with_mark : List (DocumentRow R) → List ℕ → Bool → List (DocumentRow R)
  with_mark rows document mark = map (λ (row : DocumentRow R). if is_of document row then record row { published = mark } else row) rows

-- ---- next addresses

-- the next document of an account among these documents
abbrev pub next_document_in : List (List ℕ) → List ℕ → List ℕ
next_document_in documents account = next_below documents (account ++ 0 ∷ [])

-- A version goes under its source where the account is the source's and there is room for one more place.
-- Otherwise it is the account's next document.
abbrev pub version_address_in : List (List ℕ) → (source account : List ℕ) → List ℕ
version_address_in documents source account =
    if is_of_account account source && nat_lt (length source) 20 then next_below documents source else next_document_in documents account

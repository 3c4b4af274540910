-- What has to hold of contents and of documents' trees beside tables, so that a world can stand in them.
use Rattle.std.specs.Prelude.{◌≡◌, ℕ, ◌<◌, List, length, map, All}
use Rattle.std.specs.List.{Contains}
use Rattle.tumbler.specs.ListView.{ListView}
use Rattle.enfilade_core.specs.declared.tree.Row.{Row}
use Rattle.enfilade_core.specs.Rows.{Shape, rows_of}
use Rattle.granfilade.specs.Content.{ByteAt, laid_out}
use Rattle.granfilade.specs.Puts.{IsContent}
use Rattle.page_tables.specs.declared.tables.TableDocument.{TableDocument}
use Rattle.page_tables.specs.Plain.{PlainTables}
use Rattle.poom.specs.Laid.{IsRoot, texts, links}
use Rattle.content_checks.specs.Listed.{listed_bytes, listed_ids}

-- the addresses at which the bytes of rows stand, byte by byte
abbrev pub byte_addresses : List (Row (ListView ℕ)) → List (List ℕ)
byte_addresses rows = map (λ (at : ByteAt). at.address) (laid_out rows)

-- The rows are those of contents. Their bytes are those that the documents have: of each document number 1 and on, without
-- gaps or repeats, and none that is not a document's.
pub record AreContents (documents : List TableDocument) (rows : List (Row (ListView ℕ))) : Type 0 where
  pub content : IsContent rows
  pub bytes : byte_addresses rows ≡ listed_bytes documents

-- The node is the root of a document. Each byte that it shows is one that a document has, and each of its links is listed.
pub record IsShown (nodes : List (Shape ℕ)) (tables : PlainTables) (k : ℕ) : Type 0 where
  pub root : IsRoot nodes k
  pub text : All (Contains (listed_bytes tables.documents)) (texts (rows_of nodes k))
  pub link : All (Contains (listed_ids tables.links)) (links (rows_of nodes k))

-- the tree of contents has the documents' bytes, and each document's tree is right
pub record AreSound (contents : List (Shape (ListView ℕ))) (nodes : List (Shape ℕ)) (tables : PlainTables) : Type 0 where
  pub there : tables.granfilade < length contents
  pub content : AreContents tables.documents (rows_of contents tables.granfilade)
  pub each : All (λ (row : TableDocument). IsShown nodes tables row.root) tables.documents

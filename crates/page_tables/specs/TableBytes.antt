-- How tables are written, and which bytes are tables.
use Rattle.std.specs.Prelude.{◌≡◌, ℕ, List, ◌++◌, Option, Some, None}
use Rattle.tumbler.specs.Places.{IsTumbler}
use Rattle.febe_data.specs.declared.run.Run.{Run}
use Rattle.disk_fields.specs.Format.{IsU32, IsU64, AreCounted, u32_bytes, u64_bytes, tumbler_bytes, list_bytes}
use Rattle.page_tables.specs.declared.tables.TableDocument.{TableDocument}
use Rattle.page_tables.specs.declared.tables.Tables.{Tables}
use Rattle.page_tables.specs.Plain.{PlainLink, PlainTables, plain_tables}

-- ---- how it is written

-- a run: its origin, its content, its first byte and its length
abbrev pub run_bytes : Run → List ℕ
run_bytes run = tumbler_bytes run.origin ++ (tumbler_bytes run.content ++ (u32_bytes run.first ++ u32_bytes run.length))

-- runs: how many, and each of them
abbrev pub runs_bytes : List Run → List ℕ
runs_bytes runs = list_bytes run_bytes runs

-- a document: its address, the root of its tree, and how many bytes of content it has
abbrev pub document_bytes : TableDocument → List ℕ
document_bytes row = tumbler_bytes row.document ++ (u64_bytes row.root ++ u32_bytes row.content)

-- a link: its id, its home, and the runs of its three ends
abbrev pub link_bytes : PlainLink → List ℕ
link_bytes link = tumbler_bytes link.id ++ (tumbler_bytes link.home ++ (runs_bytes link.from ++ (runs_bytes link.to ++ runs_bytes link.three)))

-- The documents, the roots of the five other trees, and the links. A list has the number of its items in front.
-- The five are of the contents, of the index of spans, and of the indexes of the links' three ends.
abbrev pub tables_bytes : PlainTables → List ℕ
tables_bytes tables =
    list_bytes document_bytes tables.documents
    ++ (u64_bytes tables.granfilade ++ (u64_bytes tables.spanfilade ++ (u64_bytes tables.from ++ (u64_bytes tables.to ++ (u64_bytes tables.three ++ list_bytes link_bytes tables.links)))))

-- ---- what can be written

-- its addresses are tumblers, and four bytes have room for each of its numbers
pub record IsRun (run : Run) : Type 0 where
  pub origin : IsTumbler run.origin
  pub content : IsTumbler run.content
  pub first : IsU32 run.first
  pub length : IsU32 run.length

-- the same of a document, whose root has eight bytes
pub record IsDocumentRow (row : TableDocument) : Type 0 where
  pub document : IsTumbler row.document
  pub root : IsU64 row.root
  pub content : IsU32 row.content

-- and of a link, whose ends have fewer than 2^32 runs each
pub record IsLinkRow (link : PlainLink) : Type 0 where
  pub id : IsTumbler link.id
  pub home : IsTumbler link.home
  pub from : AreCounted IsRun link.from
  pub to : AreCounted IsRun link.to
  pub three : AreCounted IsRun link.three

-- eight bytes have room for each of the five roots
pub record HasRoots (tables : PlainTables) : Type 0 where
  pub granfilade : IsU64 tables.granfilade
  pub spanfilade : IsU64 tables.spanfilade
  pub from : IsU64 tables.from
  pub to : IsU64 tables.to
  pub three : IsU64 tables.three

-- documents and links are fewer than 2^32 each, and all that is in them can be written
pub record AreTables (tables : PlainTables) : Type 0 where
  pub documents : AreCounted IsDocumentRow tables.documents
  pub roots : HasRoots tables
  pub links : AreCounted IsLinkRow tables.links

-- ---- which bytes are tables

-- these bytes are what is written of these tables
pub record AreTablesOf (tables : PlainTables) (bytes : List ℕ) : Type 0 where
  pub right : AreTables tables
  pub spelled : bytes ≡ tables_bytes tables

-- what was read of bytes is so: the tables that are written so, or none where they are not what is written of any
abbrev pub AreReadTables : List ℕ → Option Tables → Type 0
AreReadTables bytes (Some tables) = AreTablesOf (plain_tables tables) bytes
AreReadTables bytes None = (tables : PlainTables) → ¬ AreTablesOf tables bytes

-- Reading tables from left to right: a value and the bytes after it, or nothing.
use Rattle.std.specs.Prelude.{ℕ, ◌==◌, List, length, Option, Some, None, if◌then◌else◌}
use Rattle.febe_data.specs.declared.run.Run.{Run}
use Rattle.febe_fields.specs.Reading.{◌>>=◌}
use Rattle.disk_fields.specs.Reading.{u32_at, u64_at, tumbler_at, both_at, made_at, counted_at}
use Rattle.page_tables.specs.declared.tables.TableDocument.{TableDocument}
use Rattle.page_tables.specs.Plain.{PlainLink, PlainTables}

-- ---- runs: origin, content, first byte and length

abbrev pub run_of : List ℕ × (List ℕ × (ℕ × ℕ)) → Run
run_of parts = record { origin = parts.0; content = parts.1.0; first = parts.1.1.0; length = parts.1.1.1 }

unfoldable pub run_at : List ℕ → Option (Run × List ℕ)
run_at bytes = made_at run_of (both_at tumbler_at (both_at tumbler_at (both_at u32_at u32_at))) bytes

-- how many there are, and the runs
abbrev pub runs_at : List ℕ → Option (List Run × List ℕ)
runs_at bytes = counted_at run_at bytes

-- ---- documents: address, root and bytes of content

abbrev pub document_of : List ℕ × (ℕ × ℕ) → TableDocument
document_of parts = record { document = parts.0; root = parts.1.0; content = parts.1.1 }

unfoldable pub document_at : List ℕ → Option (TableDocument × List ℕ)
document_at bytes = made_at document_of (both_at tumbler_at (both_at u64_at u32_at)) bytes

-- ---- links: id, home, and the runs of three ends

abbrev pub link_of : List ℕ × (List ℕ × (List Run × (List Run × List Run))) → PlainLink
link_of parts = record { id = parts.0; home = parts.1.0; from = parts.1.1.0; to = parts.1.1.1.0; three = parts.1.1.1.1 }

unfoldable pub link_at : List ℕ → Option (PlainLink × List ℕ)
link_at bytes = made_at link_of (both_at tumbler_at (both_at tumbler_at (both_at runs_at (both_at runs_at runs_at)))) bytes

-- ---- tables: documents, five roots, and links

abbrev pub tables_of : List TableDocument × (ℕ × (ℕ × (ℕ × (ℕ × (ℕ × List PlainLink))))) → PlainTables
tables_of parts = record {
  documents = parts.0;
  granfilade = parts.1.0;
  spanfilade = parts.1.1.0;
  from = parts.1.1.1.0;
  to = parts.1.1.1.1.0;
  three = parts.1.1.1.1.1.0;
  links = parts.1.1.1.1.1.1;
}

unfoldable pub tables_at : List ℕ → Option (PlainTables × List ℕ)
tables_at bytes = made_at tables_of (both_at (counted_at document_at) (both_at u64_at (both_at u64_at (both_at u64_at (both_at u64_at (both_at u64_at (counted_at link_at))))))) bytes

-- the tables that these bytes are, and no bytes behind them
unfoldable pub whole_tables : List ℕ → Option PlainTables
whole_tables bytes = do
  tables ← tables_at bytes
  if length tables.1 == 0 then Some tables.0 else None

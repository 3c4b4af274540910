-- The law of tables.
use Rattle.std.specs.Prelude.{◌≡◌, ℕ, List}
use Rattle.page_tables.specs.Plain.{PlainTables}
use Rattle.page_tables.specs.TableBytes.{AreTablesOf}

-- bytes are what is written of some tables at most once
abbrev pub OneTables : Type 0
OneTables = (one other : PlainTables) (bytes : List ℕ) → AreTablesOf one bytes → AreTablesOf other bytes → one ≡ other

-- The rows that entries of a map stand for.
use Rattle.std.specs.Prelude.{ℕ, List, map}
use Rattle.std.specs.BTreeMap.{BTreeMap}
use Rattle.world_rules.specs.declared.rows.SessionRow.{SessionRow}

abbrev pub session_row : ℕ × ℕ → SessionRow
session_row entry = record { session = entry.0; entries = entry.1 }

abbrev pub session_rows : BTreeMap ℕ ℕ → List SessionRow
session_rows counts = map session_row counts.entries

-- The keys that rows are found by, and the rows that entries stand for.
use Rattle.std.specs.Prelude.{◌≡◌, ℕ, Bool, false, List, Option, Some, None, map}
use Rattle.std.specs.declared.cmp.Ordering.{Ordering}
use Rattle.std.specs.Ordering.{nat_cmp, ordering_then}
use Rattle.std.specs.Cmp.Lexicographic.{slice_cmp}
use Rattle.std.specs.BTreeMap as tree
use Rattle.std.specs.BTreeMap.{BTreeMap}
use Rattle.std.specs.BTreeSet as sorted
use Rattle.std.specs.BTreeSet.{BTreeSet}
use Rattle.febe_data.specs.declared.access.Mode.{Mode}
use Rattle.world_rules.specs.declared.rows.OpenRow.{OpenRow}
use Rattle.world_rules.specs.declared.rows.AccountRow.{AccountRow}
use Rattle.world_rules.specs.World.{is_write}

-- by session, then by document
abbrev pub opening_cmp : ℕ × List ℕ → ℕ × List ℕ → Ordering
opening_cmp a b = ordering_then (nat_cmp a.0 b.0) (slice_cmp nat_cmp a.1 b.1)

-- by document, then by session
abbrev pub writing_cmp : List ℕ × ℕ → List ℕ × ℕ → Ordering
writing_cmp a b = ordering_then (slice_cmp nat_cmp a.0 b.0) (nat_cmp a.1 b.1)

-- the row of an entry
abbrev pub open_row : (ℕ × List ℕ) × Mode → OpenRow
open_row entry = record { session = entry.0.0; document = entry.0.1; mode = entry.1 }

abbrev pub account_row : ℕ × List ℕ → AccountRow
account_row entry = record { session = entry.0; account = entry.1 }

-- the rows of a map
abbrev pub open_rows : BTreeMap (ℕ × List ℕ) Mode → List OpenRow
open_rows opened = map open_row opened.entries

abbrev pub account_rows : BTreeMap ℕ (List ℕ) → List AccountRow
account_rows accounts = map account_row accounts.entries

-- whether what was found is open for writing
abbrev pub found_writing : Option Mode → Bool
found_writing None = false
found_writing (Some mode) = is_write mode

-- the writers are the sessions and documents whose mode is to write
abbrev pub HoldsWriters : BTreeMap (ℕ × List ℕ) Mode → BTreeSet (List ℕ × ℕ) → Type 0
HoldsWriters opened writers = (session : ℕ) (document : List ℕ) → sorted.contains writing_cmp writers (document, session) ≡ found_writing (tree.get opening_cmp opened (session, document))

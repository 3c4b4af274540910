-- What the phases of a commit are given, and what they leave.
use Rattle.std.specs.Prelude.{◌≡◌, ℕ, ◌*◌, ◌≤◌, true, [], length, Option, None, Some}
use Rattle.green_io.specs.Areas.{Areas}
use Rattle.page_journal.specs.Pages.{Bytes, Writes, home_after}
use Rattle.page_journal.specs.JournalBytes.{entries, all_low, begins_with_record, writes_at}

-- these bytes have so many pages of a record, which are these writes
pub record IsRun (count : ℕ) (bytes : Bytes) (writes : Writes) : Type 0 where
  pub long : 4104 * count ≤ length bytes
  pub are : entries count bytes ≡ writes
  pub low : all_low writes ≡ true

-- the bytes begin with a whole record of these writes
pub record IsStaged (kept : Bytes) (writes : Writes) : Type 0 where
  pub whole : begins_with_record kept ≡ true
  pub are : writes_at kept ≡ writes

-- what Home reads once the rest of the writes are written is what it would read once all of them were
abbrev pub AmidHome : Writes → Writes → Option Areas → Option Areas → Type 0
AmidHome writes rest None new = Unit {0}
AmidHome writes rest (Some old) None = ⊥
AmidHome writes rest (Some old) (Some new) = home_after rest new.home ≡ home_after writes old.home

-- Home reads what it read, with the writes laid over it
abbrev pub LaidHome : Writes → Option Areas → Option Areas → Type 0
LaidHome writes old new = AmidHome writes [] old new

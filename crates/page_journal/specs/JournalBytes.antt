-- The bytes of the Journal: its gate, and the pages that are staged behind it.
use Rattle.std.specs.Prelude.{◌≡◌, ℕ, zero, suc, ◌*◌, ◌<◌, ◌≤◌, Bool, true, ◌&&◌, List, [], ◌∷◌, ◌++◌, map, length, take, drop, if◌then◌else◌, nat_eq, nat_lt, nat_le}
use Rattle.std.specs.List.{flat_map, AllByRecursion}
use Rattle.std.specs.Int.{w32, w64, to_be_bytes, from_be_bytes}
use Rattle.green_io.specs.Areas.{Areas}
use Rattle.page_journal.specs.declared.page_write.PageWrite.{PageWrite}
use Rattle.page_journal.specs.Pages.{Bytes, Pages, PageBytes, page_bytes, Writes, pages_of, home_after}

-- a page that is handed over to be written
abbrev pub write_of : PageWrite → PageBytes
write_of write = page_bytes write.number write.bytes.items

abbrev pub writes_of : List PageWrite → Writes
writes_of pages = map write_of pages

-- a page number that is in use, and as many bytes as a page has
pub record IsWrite (write : PageBytes) : Type 0 where
  pub low : write.number < 1099511627776
  pub whole : length write.bytes ≡ 4096

-- what one commit writes: 1 to 1,024 pages
pub record AreWrites (writes : Writes) : Type 0 where
  pub some : 1 ≤ length writes
  pub few : length writes ≤ 1024
  pub each : AllByRecursion IsWrite writes

-- a page in the record: its number in eight bytes, high byte first, and its bytes
abbrev pub entry_bytes : PageBytes → Bytes
entry_bytes write = to_be_bytes w64 write.number ++ write.bytes

-- the record of a commit: how many pages, in four bytes, and each of them
unfoldable pub record_of : Writes → Bytes
record_of writes = to_be_bytes w32 (length writes) ++ flat_map entry_bytes writes

-- how many pages a record says that it has
abbrev pub count_of : Bytes → ℕ
count_of bytes = from_be_bytes w32 (take 4 bytes)

-- so many pages of a record, as they stand one behind another
abbrev pub entries : ℕ → Bytes → Writes
entries zero bytes = []
entries (suc n) bytes = page_bytes (from_be_bytes w64 (take 8 bytes)) (take 4096 (drop 8 bytes)) ∷ entries n (drop 4104 bytes)

-- the pages of a record
unfoldable pub writes_at : Bytes → Writes
writes_at bytes = entries (count_of bytes) (drop 4 bytes)

-- each page number is in use
abbrev pub all_low : Writes → Bool
all_low [] = true
all_low (write ∷ writes) = nat_lt write.number 1099511627776 && all_low writes

-- The bytes begin with a whole record: a count of 1 to 1,024, all the pages that it counts, and their numbers are in use.
unfoldable pub begins_with_record : Bytes → Bool
begins_with_record bytes =
    nat_le 4 (length bytes)
    && (nat_le 1 (count_of bytes)
    && (nat_le (count_of bytes) 1024
    && (nat_le (4104 * count_of bytes) (length (drop 4 bytes))
    && all_low (entries (count_of bytes) (drop 4 bytes)))))

-- the pages that are staged in these bytes: none where they do not begin with a whole record
unfoldable pub staged : Bytes → Writes
staged bytes = if begins_with_record bytes then writes_at bytes else []

-- The pages that opening lays over Home. The gate is the first byte, and is open where it is 1. The record begins at 4,096.
abbrev pub replayed : Bytes → Writes
replayed [] = []
replayed (gate ∷ behind) = if nat_eq gate 1 then staged (drop 4095 behind) else []

-- the pages that opening gives on these areas
abbrev pub opened : Areas → Pages
opened areas = pages_of (home_after (replayed areas.journal) areas.home)

-- The pages of Home, and what writes of whole pages make of them.
use Rattle.std.specs.Prelude.{◌≡◌, ℕ, ◌+◌, ◌-◌, ◌*◌, Bool, false, ◌||◌, List, [], ◌∷◌, ◌++◌, length, take, drop, replicate, Option, None, Some, if◌then◌else◌, nat_eq, nat_le}

abbrev pub Bytes : Type 0
Bytes = List ℕ

-- what is in the page of each number, none where the page is not there
abbrev pub Pages : Type 0
Pages = ℕ → Option Bytes

-- A page is 4,096 bytes. Page k begins at 4,096 times k, and is there where all its bytes are.
unfoldable pub pages_of : Bytes → Pages
pages_of home k = if nat_le (4096 * k + 4096) (length home) then Some (take 4096 (drop (4096 * k) home)) else None

-- a page that is written: its number, and its new bytes
pub record PageBytes : Type 0 where
  pub number : ℕ
  pub bytes : Bytes

abbrev pub page_bytes : ℕ → Bytes → PageBytes
page_bytes number bytes = record { number = number; bytes = bytes }

abbrev pub Writes : Type 0
Writes = List PageBytes

-- the pages with one of them written
abbrev pub put : PageBytes → Pages → Pages
put write pages k = if nat_eq k write.number then Some write.bytes else pages k

-- the pages with all these written, one after another
abbrev pub laid : Writes → Pages → Pages
laid [] pages = pages
laid (write ∷ writes) pages = laid writes (put write pages)

-- one of the writes is to this page
abbrev pub is_written : Writes → ℕ → Bool
is_written [] k = false
is_written (write ∷ writes) k = nat_eq k write.number || is_written writes k

-- what an area holds once these bytes are written at this place, with zeros between its end and the place
abbrev pub written_at : ℕ → Bytes → Bytes → Bytes
written_at at bytes old = take at old ++ replicate (at - length old) 0 ++ bytes ++ drop (at + length bytes) old

-- what Home holds once all these pages are written, one after another
abbrev pub home_after : Writes → Bytes → Bytes
home_after [] home = home
home_after (write ∷ writes) home = home_after writes (written_at (4096 * write.number) write.bytes home)

-- every page is there with the same bytes, or in neither
abbrev pub AreSame : Pages → Pages → Type 0
AreSame old new = (k : ℕ) → new k ≡ old k

-- each page that was there is there, with the same bytes; more may be there
abbrev pub Extends : Pages → Pages → Type 0
Extends old new = (k : ℕ) (page : Bytes) → old k ≡ Some page → new k ≡ Some page

-- each page that was there, and that none of the writes is to, is there with the same bytes
abbrev pub Spares : Writes → Pages → Pages → Type 0
Spares writes old new = (k : ℕ) (page : Bytes) → is_written writes k ≡ false → old k ≡ Some page → new k ≡ Some page

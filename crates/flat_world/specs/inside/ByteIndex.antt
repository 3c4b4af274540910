-- Content bytes by their addresses: the addresses come into an index first, and their bytes are found then.
use Rattle.std.specs.Prelude.{ℕ, ◌==◌, ◌≡◌, List, [], ◌∷◌, length, Option, Some, None, if◌then◌else◌}
use Rattle.std.specs.List.{All, filter_map}
use Rattle.std.specs.Option.{unwrap_or}
use Rattle.std.specs.BTreeMap.{BTreeMap, get}
use Rattle.std.specs.Ordering.{nat_cmp}
use Rattle.std.specs.Cmp.Lexicographic.{slice_cmp}
use Rattle.febe_data.specs.Plain.{PlainItem, bytes}
use Rattle.world_rules.specs.declared.rows.Row.{Row}
use Rattle.world_rules.specs.declared.rows.ByteRow.{ByteRow}
use Rattle.world_rules.specs.World.{byte_at, is_same}

-- addresses, each with its byte once that is found
abbrev pub ByteIndex : Type 0
ByteIndex = BTreeMap (List ℕ) (Option ℕ)

-- what the index has at an address: the byte, or nothing yet
abbrev pub entry_at : ByteIndex → List ℕ → Option (Option ℕ)
entry_at index address = get (slice_cmp nat_cmp) index address

-- the index has the address, with the byte that came there last, or with none where none did
abbrev pub HasByteAt : List ByteRow → ByteIndex → List ℕ → Type 0
HasByteAt rows index address = entry_at index address ≡ Some (byte_at rows address)

-- it has these addresses, and of each the byte
abbrev pub HasBytesOf : List ByteRow → List (List ℕ) → ByteIndex → Type 0
HasBytesOf rows addresses index = All (HasByteAt rows index) addresses

-- it has the address, and no byte of it yet
abbrev pub IsWanted : ByteIndex → List ℕ → Type 0
IsWanted index address = entry_at index address ≡ Some None

-- it has come to have these addresses too, and no byte of them yet
pub record WantsMore (addresses : List (List ℕ)) (old new : ByteIndex) : Type 0 where
  pub kept : (address : List ℕ) → IsWanted old address → IsWanted new address
  pub added : All (IsWanted new) addresses

-- the byte of each address without one was found
abbrev pub FindsBytes : List ByteRow → (old new : ByteIndex) → Type 0
FindsBytes rows old new = (address : List ℕ) → IsWanted old address → HasByteAt rows new address

-- each address that the index has gets the row's byte where it is the row's, and keeps what it had where not
abbrev pub TakesByte : ByteRow → (old new : ByteIndex) → Type 0
TakesByte row old new = (address : List ℕ) (found : Option ℕ) → entry_at old address ≡ Some found → entry_at new address ≡ Some (if is_same row.address address then Some row.byte else found)

-- the byte that the index has at the address, where it has one
abbrev pub byte_of : ByteIndex → List ℕ → Option ℕ
byte_of index address = unwrap_or (entry_at index address) None

-- the bytes of text rows, by the index
abbrev pub bytes_of : ByteIndex → List Row → List ℕ
bytes_of index rows = filter_map (λ (row : Row). byte_of index row.address) rows

-- one item with the bytes, where there is a row
abbrev pub item_of : ByteIndex → List Row → List PlainItem
item_of index rows = if length rows == 0 then [] else bytes (bytes_of index rows) ∷ []

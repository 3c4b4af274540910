-- Reading fields from left to right: a value and the bytes after it, or nothing.
use Rattle.std.specs.Prelude.{ℕ, List, [], ◌∷◌, length, take, drop, Option, Some, None, nat_lt, if◌then◌else◌}
use Rattle.std.specs.Int.{w32, w64, from_be_bytes}
use Rattle.febe_fields.specs.Reading.{◌>>=◌, ends_well, many_at}

-- ---- numbers and tumblers

unfoldable pub u8_at : List ℕ → Option (ℕ × List ℕ)
u8_at [] = None
u8_at (b ∷ bytes) = Some (b, bytes)

unfoldable pub u32_at : List ℕ → Option (ℕ × List ℕ)
u32_at bytes = if nat_lt (length bytes) 4 then None else Some (from_be_bytes w32 (take 4 bytes), drop 4 bytes)

unfoldable pub u64_at : List ℕ → Option (ℕ × List ℕ)
u64_at bytes = if nat_lt (length bytes) 8 then None else Some (from_be_bytes w64 (take 8 bytes), drop 8 bytes)

-- the places of a tumbler: how many there are, at most 24, and each of them
unfoldable pub places_at : List ℕ → Option (List ℕ × List ℕ)
places_at bytes = do
  count ← u8_at bytes
  if nat_lt 24 count.0 then None else many_at u32_at count.0 count.1

-- a tumbler: its last place is not 0
unfoldable pub tumbler_at : List ℕ → Option (List ℕ × List ℕ)
tumbler_at bytes = do
  places ← places_at bytes
  if ends_well places.0 then Some (places.0, places.1) else None

-- a text: its length, and that many bytes
unfoldable pub text_at : List ℕ → Option (List ℕ × List ℕ)
text_at bytes = do
  len ← u32_at bytes
  if nat_lt (length len.1) len.0 then None else Some (take len.0 len.1, drop len.0 len.1)

-- ---- what fields make together

-- one thing, and another behind it
unfoldable pub both_at : {X Y : Type 0} → (List ℕ → Option (X × List ℕ)) → (List ℕ → Option (Y × List ℕ)) → List ℕ → Option ((X × Y) × List ℕ)
both_at a b bytes = do
  first ← a bytes
  second ← b first.1
  Some ((first.0, second.0), second.1)

-- what is made of something that is read
unfoldable pub made_at : {X Y : Type 0} → (X → Y) → (List ℕ → Option (X × List ℕ)) → List ℕ → Option (Y × List ℕ)
made_at make a bytes = do
  x ← a bytes
  Some (make x.0, x.1)

-- how many items there are, and the items
unfoldable pub counted_at : {X : Type 0} → (List ℕ → Option (X × List ℕ)) → List ℕ → Option (List X × List ℕ)
counted_at read bytes = do
  count ← u32_at bytes
  many_at read count.0 count.1

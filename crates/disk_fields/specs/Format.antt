-- How the fields of what is kept are written. Numbers are unsigned, of a fixed size, with the high byte first.
use Rattle.std.specs.Prelude.{ℕ, ◌<◌, List, ◌∷◌, ◌++◌, length, All}
use Rattle.std.specs.List.{flat_map}
use Rattle.std.specs.Int.{w32, w64, to_be_bytes}

-- a number that four bytes have room for
abbrev pub IsU32 : ℕ → Type 0
IsU32 n = n < 4294967296

-- and one that eight bytes have room for
abbrev pub IsU64 : ℕ → Type 0
IsU64 n = n < 18446744073709551616

-- a text whose length four bytes have room for
pub record IsTextField (text : List ℕ) : Type 0 where
  pub counted : IsU32 (length text)
  pub bytes : All (λ b. b < 256) text

-- items, as many as four bytes have room to count, each of them right
pub record AreCounted {X : Type 0} (IsWellFormed : X → Type 0) (xs : List X) : Type 0 where
  pub counted : IsU32 (length xs)
  pub each : All IsWellFormed xs

-- a number in four bytes
abbrev pub u32_bytes : ℕ → List ℕ
u32_bytes n = to_be_bytes w32 n

-- and in eight
abbrev pub u64_bytes : ℕ → List ℕ
u64_bytes n = to_be_bytes w64 n

-- a tumbler: one byte that counts its places, and each place
abbrev pub tumbler_bytes : List ℕ → List ℕ
tumbler_bytes places = length places ∷ flat_map u32_bytes places

-- a list: how many items, and each of them
abbrev pub list_bytes : {X : Type 0} → (X → List ℕ) → List X → List ℕ
list_bytes item_bytes xs = u32_bytes (length xs) ++ flat_map item_bytes xs

-- a text: its length, and its bytes as they are
abbrev pub text_bytes : List ℕ → List ℕ
text_bytes text = u32_bytes (length text) ++ text

-- Prefixes of what a grammar spells. A grammar is given by which bytes it spells.
use Rattle.std.specs.Prelude.{◌≢◌, ℕ, ◌<◌, ◌≤◌, List, [], ◌++◌, length, take}
use Rattle.febe_fields.specs.declared.scanned.Scanned.{Scanned}
use Rattle.febe_fields.specs.declared.scanned.Scanned.TheVariants.{Incomplete, Complete, Bad}

-- the bytes are a prefix of something that is spelled
pub record IsPrefix (Spelled : List ℕ → Type 0) (bytes : List ℕ) : Type 0 where
  pub more : List ℕ
  pub whole : Spelled (bytes ++ more)

-- they are a proper prefix of something that is spelled
pub record IsProperPrefix (Spelled : List ℕ → Type 0) (bytes : List ℕ) : Type 0 where
  pub more : List ℕ
  pub goes_on : more ≢ []
  pub whole : Spelled (bytes ++ more)

-- no prefix of the bytes is spelled
abbrev pub HasNoSpelledPrefix : (List ℕ → Type 0) → List ℕ → Type 0
HasNoSpelledPrefix Spelled bytes = (n : ℕ) → n ≤ length bytes → ¬ Spelled (take n bytes)

-- The bytes are bad at this place: no prefix of them is spelled, and their longest prefix that is a prefix of
-- something spelled has this length.
pub record IsBadAt (Spelled : List ℕ → Type 0) (bytes : List ℕ) (at : ℕ) : Type 0 where
  pub within : at < length bytes
  pub prefix : IsPrefix Spelled (take at bytes)
  pub longest : (n : ℕ) → at < n → n ≤ length bytes → ¬ IsPrefix Spelled (take n bytes)
  pub none : HasNoSpelledPrefix Spelled bytes

-- all the bytes are a proper prefix of something that is spelled, and no prefix of them is spelled
pub record IsUnfinished (Spelled : List ℕ → Type 0) (bytes : List ℕ) : Type 0 where
  pub prefix : IsProperPrefix Spelled bytes
  pub none : HasNoSpelledPrefix Spelled bytes

-- the prefix of this length is spelled
pub record HasSpelledPrefix (Spelled : List ℕ → Type 0) (bytes : List ℕ) (used : ℕ) : Type 0 where
  pub within : used ≤ length bytes
  pub prefix : Spelled (take used bytes)

-- what a scan says of the bytes is so
abbrev pub IsScanned : (List ℕ → Type 0) → List ℕ → Scanned → Type 0
IsScanned Spelled bytes Incomplete = IsUnfinished Spelled bytes
IsScanned Spelled bytes (Complete used) = HasSpelledPrefix Spelled bytes used
IsScanned Spelled bytes (Bad at) = IsBadAt Spelled bytes at

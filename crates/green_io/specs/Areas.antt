-- The areas of a disk: their contents together, and one of them.
use Rattle.std.specs.Prelude.{◌≡◌, ℕ, List, Bool, true, false}
use Rattle.green_io.specs.declared.disk.Area.{Area}
use Rattle.green_io.specs.declared.disk.Area.TheVariants.{Log, Home, Journal, Second}

-- the bytes of each area
pub record Areas : Type 0 where
  pub log : List ℕ
  pub home : List ℕ
  pub journal : List ℕ
  pub second : List ℕ

-- the bytes of one area
abbrev pub area_of : Area → Areas → List ℕ
area_of Log areas = areas.log
area_of Home areas = areas.home
area_of Journal areas = areas.journal
area_of Second areas = areas.second

-- these are one area
abbrev pub is_same : Area → Area → Bool
is_same Log Log = true
is_same Home Home = true
is_same Journal Journal = true
is_same Second Second = true
is_same _ _ = false

-- the areas of the log of edits: as it was kept before each edit had its moment, and with the moments
abbrev pub is_logged : Area → Bool
is_logged Log = true
is_logged Home = false
is_logged Journal = false
is_logged Second = true

-- every area but those that are touched has the bytes that it had
abbrev pub IsSameBut : (Area → Bool) → Areas → Areas → Type 0
IsSameBut touched old new = (other : Area) → touched other ≡ false → area_of other new ≡ area_of other old

-- every other area has the bytes that it had
abbrev pub IsSameBeside : Area → Areas → Areas → Type 0
IsSameBeside area old new = IsSameBut (is_same area) old new

-- this was done to one area, and nothing to the others
abbrev pub InArea : Area → (List ℕ → List ℕ → Type 0) → Areas → Areas → Type 0
InArea area step old new = step (area_of area old) (area_of area new) × IsSameBeside area old new

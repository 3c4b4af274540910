-- Which of a disk's two areas for a log is the one that is read, and what it has.
use Rattle.std.specs.Prelude.{◌≡◌, ◌≢◌, ◌⊎◌, ℕ, ◌+◌, List, [], ◌∷◌, ◌++◌, Option, None, Some}
use Rattle.entry_codec.specs.Logged.{PlainLogged}
use Rattle.entry_codec.specs.declared.format.LogFormat.{LogFormat}
use Rattle.entry_codec.specs.declared.format.LogFormat.TheVariants.{Old, New}
use Rattle.green_io.specs.Areas.{Areas}
use Rattle.edit_log.specs.Log.{gated, IsEnd, ReadsAs, HasEndClosed, IsDamagedAt, IsWhole}

-- The second area is open: it begins with a gate 1, more bytes come behind that, and these have this.
pub record IsOpened (fact : List ℕ → Type 0) (second : List ℕ) : Type 0 where
  pub rest : List ℕ
  pub parts : second ≡ 1 ∷ rest
  pub more : rest ≢ []
  pub has : fact rest

-- The logged area has this, told of its format. It is what stands behind the gate of the second area where that is open; and
-- else, where the second area reads like the end of a log, it is the log of before.
abbrev pub InLogged : (LogFormat → List ℕ → Type 0) → Areas → Type 0
InLogged fact areas = (IsEnd areas.second × fact Old areas.log) ⊎ IsOpened (fact New) areas.second

-- so it is in the area of this format alone
abbrev pub InFormat : LogFormat → (List ℕ → Type 0) → Areas → Type 0
InFormat Old fact areas = IsEnd areas.second × fact areas.log
InFormat New fact areas = IsOpened fact areas.second

-- where a format's log begins in its area: a gate stands in front of that of the second area
abbrev pub begins_at : LogFormat → ℕ
begins_at Old = 0
begins_at New = 1

-- the logged area is whole with these entries
abbrev pub HoldsWhole : List PlainLogged → Areas → Type 0
HoldsWhole rows image = InLogged (λ format. IsWhole format rows) image

-- these are the entries of the logged area as it is read, and it has this format
abbrev pub ReadsIn : LogFormat → List PlainLogged → Areas → Type 0
ReadsIn format rows areas = InFormat format (ReadsAs format rows) areas

-- the logged area has this format, and cannot be read past the gate at this place of the area
abbrev pub IsDamagedIn : LogFormat → ℕ → Areas → Type 0
IsDamagedIn format place areas =
    (offset : ℕ) × (place ≡ begins_at format + offset) × InFormat format (IsDamagedAt format offset) areas

-- the logged area cannot be read past the gate at this place
abbrev pub IsDamaged : ℕ → Areas → Type 0
IsDamaged place areas = (format : LogFormat) × IsDamagedIn format place areas

-- the second area with these entries, up to its end gate
abbrev pub front_of : List PlainLogged → List ℕ
front_of rows = 1 ∷ gated New rows

-- What opening leaves of a second area. A log of before has moved into it: it is open with these entries and an end gate 0. One
-- that was open has the end gate closed.
abbrev pub IsSecondAfter : LogFormat → List PlainLogged → List ℕ → List ℕ → Type 0
IsSecondAfter Old rows old new = new ≡ front_of rows ++ (0 ∷ [])
IsSecondAfter New rows old new = (was now : List ℕ) × (old ≡ 1 ∷ was) × (new ≡ 1 ∷ now) × HasEndClosed New rows was now

-- What opening leaves of what the disk reads: the log is in the second area, and that of before is empty.
pub record IsMoved (read : LogFormat) (rows : List PlainLogged) (old new : Areas) : Type 0 where
  pub emptied : new.log ≡ []
  pub second : IsSecondAfter read rows old.second new.second

-- the disk tells what it reads before and after, and this holds of both; or it tells neither
abbrev pub BothTold : Option Areas → Option Areas → (Areas → Areas → Type 0) → Type 0
BothTold None None fact = Unit {0}
BothTold (Some old) (Some new) fact = fact old new
BothTold _ _ fact = ⊥

-- What is left where memory ran out while opening: the log of before as it was, and the second area as it was, or closed as it was
-- before, where the log was on its way into it. So the logged area has the same entries.
pub record IsAsFound (old new : Areas) : Type 0 where
  pub log : new.log ≡ old.log
  pub second : (new.second ≡ old.second) ⊎ (IsEnd old.second × IsEnd new.second)

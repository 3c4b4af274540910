-- The images of a disk while a log of before moves into the second area.
use Rattle.std.specs.Prelude.{◌≡◌, ◌⊎◌, ℕ, List, [], ◌∷◌, IsSome}
use Rattle.entry_codec.specs.Logged.{PlainLogged}
use Rattle.entry_codec.specs.declared.format.LogFormat.{LogFormat}
use Rattle.green_io.specs.Areas.{Areas}
use Rattle.green_io.specs.Disk.{DiskState, images_now}
use Rattle.edit_log.specs.Log.{IsEnd}
use Rattle.edit_log.specs.Second.{IsSecondAfter}
use Rattle.edit_log.specs.Images.{AsRead, InSecond}
use Rattle.edit_log.specs.inside.Ends.{IsThat}

-- the area begins with a gate 0
abbrev pub BeginsShut : List ℕ → Type 0
BeginsShut area = (rest : List ℕ) × (area ≡ 0 ∷ rest)

-- the area is closed, or it has been opened and is this
abbrev pub IsClosedOr : List ℕ → List ℕ → Type 0
IsClosedOr opened area = IsEnd area ⊎ (area ≡ opened)

-- the log of before is this, and the second area has this
abbrev pub Beside : List ℕ → (List ℕ → Type 0) → Areas → Type 0
Beside log fact image = (image.log ≡ log) × fact image.second

-- the disk tells what it reads, and this holds of every image
pub record ImagesHave (disk : DiskState) (fact : Areas → Type 0) : Type 0 where
  pub told : IsSome disk.reads
  pub each : (image : Areas) → images_now disk image → fact image

-- These bytes were written behind the closed gate of the second area, and are not synced: they are read there, and an
-- image has any bytes in their place.
pub record IsWriting (disk : DiskState) (log written : List ℕ) : Type 0 where
  pub reads : AsRead disk.reads (InSecond (IsThat (0 ∷ written)))
  pub images : ImagesHave disk (Beside log BeginsShut)

-- nothing is left of an area
abbrev pub IsEmptied : List ℕ → List ℕ → Type 0
IsEmptied old new = new ≡ []

-- What opening makes of what the disk reads up to its last step: the log is in the second area, and the area of before is
-- as it was.
pub record IsMovedBeside (read : LogFormat) (rows : List PlainLogged) (old new : Areas) : Type 0 where
  pub log : new.log ≡ old.log
  pub second : IsSecondAfter read rows old.second new.second

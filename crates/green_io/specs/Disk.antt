-- What the calls of a disk do to what its areas read, and what a crash may leave of them.
use Rattle.std.specs.Prelude.{◌≡◌, ◌⊎◌, ℕ, ◌+◌, ◌-◌, ◌≤◌, min, max, Bool, List, ◌++◌, length, take, drop, replicate, Option, None, Some}
use Rattle.green_io.specs.declared.disk.Area.{Area}
use Rattle.green_io.specs.declared.source.ReadAnswer.{ReadAnswer}
use Rattle.green_io.specs.declared.source.ReadAnswer.TheVariants.{Got, End, Failed}
use Rattle.green_io.specs.Areas.{Areas, area_of, IsSameBut, InArea}

-- What contracts see of a disk: what its areas read, none where it does not tell that; a clock of its calls;
-- and the images since a moment, which are what a crash at that moment or a later one may leave.
pub record DiskState : Type 1 where
  pub reads : Option Areas
  pub clock : ℕ
  pub images : ℕ → Areas → Type 0

-- what a crash now may leave
abbrev pub images_now : DiskState → Areas → Type 0
images_now disk = disk.images disk.clock

-- this holds of what the areas read, where that is told
abbrev pub WhereTold : Option Areas → (Areas → Type 0) → Type 0
WhereTold None fact = Unit {0}
WhereTold (Some areas) fact = fact areas

-- An image since a moment is one since each moment before it, and a disk as it reads is one of its images.
pub record IsDisk (disk : DiskState) : Type 0 where
  pub sooner : (t u : ℕ) (image : Areas) → t ≤ u → disk.images u image → disk.images t image
  pub as_it_reads : WhereTold disk.reads (images_now disk)

-- The new bytes are the old ones with these at this place, and zeros between the old end and the place.
abbrev pub Written : ℕ → List ℕ → List ℕ → List ℕ → Type 0
Written at bytes old new = new ≡ take at old ++ replicate (at - length old) 0 ++ bytes ++ drop (at + length bytes) old

-- the new bytes are the front of the old ones, of this length at most
abbrev pub CutTo : ℕ → List ℕ → List ℕ → Type 0
CutTo n old new = new ≡ take n old

-- A write of n bytes at this place that a crash cuts short: any bytes in its range and past the old end, and the
-- end anywhere from the old one to the write's.
pub record Torn (at n : ℕ) (old new : List ℕ) : Type 0 where
  pub any : List ℕ
  pub bytes : new ≡ take at old ++ any ++ drop (at + n) old
  pub no_shorter : length old ≤ length new
  pub no_longer : length new ≤ max (length old) (at + n)

-- A cut to this length that a crash cuts short: the end is anywhere from there to the old one.
pub record PartlyCut (n : ℕ) (old new : List ℕ) : Type 0 where
  pub front : take (length new) old ≡ new
  pub no_shorter : min n (length old) ≤ length new

-- this was done to one area of a disk, where it tells what it reads
abbrev pub Changes : Area → (List ℕ → List ℕ → Type 0) → Option Areas → Option Areas → Type 0
Changes area step None None = Unit {0}
Changes area step (Some old) (Some new) = InArea area step old new
Changes area step _ _ = ⊥

-- an image after this was done to one area of some image before
abbrev pub LeftBy : Area → (List ℕ → List ℕ → Type 0) → (Areas → Type 0) → Areas → Type 0
LeftBy area step images new = (old : Areas) × images old × InArea area step old new

-- no image
abbrev pub Nothing : Areas → Type 0
Nothing image = ⊥

-- Between an old and a new state of one disk, a crash leaves only images that it might have left before, or those
-- that have this: the images since an earlier moment are those that were, and more that have this.
pub record LeavesOnly (old new : DiskState) (fact : Areas → Type 0) : Type 0 where
  pub later : old.clock ≤ new.clock
  pub keeps : (t : ℕ) (image : Areas) → t ≤ old.clock → old.images t image → new.images t image
  pub each : (t : ℕ) (image : Areas) → t ≤ old.clock → new.images t image → old.images t image ⊎ fact image

-- every area but those that are touched reads what it read, where the disk tells that
abbrev pub ReadsAsBut : (Area → Bool) → Option Areas → Option Areas → Type 0
ReadsAsBut touched None None = Unit {0}
ReadsAsBut touched (Some old) (Some new) = IsSameBut touched old new
ReadsAsBut touched _ _ = ⊥

-- the image has in every area but those that are touched what one of these images has there
abbrev pub IsAsBut : (Area → Bool) → (Areas → Type 0) → Areas → Type 0
IsAsBut touched images image = (was : Areas) × images was × IsSameBut touched was image

-- Between an old and a new state of one disk all areas but those that are touched are left alone: they read what they
-- read, and a crash leaves in all of them together what it might have left before.
pub record LeavesBut (touched : Area → Bool) (old new : DiskState) : Type 0 where
  pub reads : ReadsAsBut touched old.reads new.reads
  pub images : LeavesOnly old new (IsAsBut touched (images_now old))

-- every image has in this area what it reads, where that is told
abbrev pub IsStable : Area → Option Areas → (Areas → Type 0) → Type 0
IsStable area None images = Unit {0}
IsStable area (Some areas) images = (image : Areas) → images image → area_of area image ≡ area_of area areas

-- what an answer of a read says of the length that was asked for: at least one byte came, and there was room for it
abbrev pub IsWithin : ReadAnswer → List ℕ → Type 0
IsWithin (Got n) into = (1 ≤ n) × (n ≤ length into)
IsWithin End into = Unit {0}
IsWithin Failed into = Unit {0}

-- a read gave the bytes that stand at this place; or it met the end, and the place is not below the length
abbrev pub ReadsAt : ReadAnswer → ℕ → List ℕ → List ℕ → Type 0
ReadsAt (Got n) at bytes into = (at + n ≤ length bytes) × (take n into ≡ take n (drop at bytes))
ReadsAt End at bytes into = length bytes ≤ at
ReadsAt Failed at bytes into = Unit {0}

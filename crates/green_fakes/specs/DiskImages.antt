-- What a crash may leave of a disk in memory.
use Rattle.std.specs.Prelude.{◌≡◌, ◌⊎◌, ℕ, ◌≤◌, ltb, Bool, true, false, if◌then◌else◌, List, [], ◌∷◌, length, Some}
use Rattle.green_io.specs.declared.disk.Area.{Area}
use Rattle.green_io.specs.declared.disk.Area.TheVariants.{Log, Home, Journal, Second}
use Rattle.green_io.specs.Areas.{Areas, area_of, is_same}
use Rattle.green_io.specs.Disk.{DiskState, Torn, PartlyCut}
use Rattle.green_fakes.specs.DiskView.{DiskView, bytes_after, areas_of}
use Rattle.green_fakes.specs.declared.change.Step.{Step}
use Rattle.green_fakes.specs.declared.change.Step.TheVariants.{Write, FailedWrite, Cut, FailedCut, Sync}
use Rattle.green_fakes.specs.declared.change.Change.{Change}

-- what a crash amid or after a step makes of an area's bytes that were not stable; a sync makes nothing of them
abbrev pub IsTornBy : Step → List ℕ → List ℕ → Type 0
IsTornBy (Write at bytes) old new = Torn at (length bytes.items) old new
IsTornBy (FailedWrite at count) old new = Torn at count old new
IsTornBy (Cut length) old new = PartlyCut length old new
IsTornBy (FailedCut length) old new = PartlyCut length old new
IsTornBy Sync old new = new ≡ old

-- the step is a sync
abbrev pub is_sync : Step → Bool
is_sync (Write at bytes) = false
is_sync (FailedWrite at count) = false
is_sync (Cut length) = false
is_sync (FailedCut length) = false
is_sync Sync = true

-- What a crash may leave of an area after a step: what the area reads, where the step is a sync; else what the step
-- makes of something that a crash might have left before.
abbrev pub IsLeftByStep : Bool → Step → List ℕ → (List ℕ → Type 0) → List ℕ → Type 0
IsLeftByStep true step reads left image = image ≡ reads
IsLeftByStep false step reads left image = (old : List ℕ) × left old × IsTornBy step old image

-- what a step leaves of bytes that a crash might have left before
abbrev pub IsLeftOf : Bool → Step → List ℕ → List ℕ → List ℕ → Type 0
IsLeftOf true step reads old image = image ≡ reads
IsLeftOf false step reads old image = IsTornBy step old image

-- the same where the step may be one of another area
abbrev pub IsLeftWhere : Bool → Step → List ℕ → (List ℕ → Type 0) → List ℕ → Type 0
IsLeftWhere true step reads left image = IsLeftByStep (is_sync step) step reads left image
IsLeftWhere false step reads left image = left image

-- what a crash may leave of an area that held these bytes at first, after these changes
abbrev pub IsLeft : Area → List ℕ → List Change → List ℕ → Type 0
IsLeft area first [] image = image ≡ first
IsLeft area first (change ∷ before) image =
    IsLeftWhere (is_same change.area area) change.step (bytes_after area first before) (IsLeft area first before) image

-- what a crash may leave of all areas
abbrev pub IsImage : Areas → List Change → Areas → Type 0
IsImage first changes image = (area : Area) → IsLeft area (area_of area first) changes (area_of area image)

-- What a crash may leave that comes after so many calls, or later: an image after all changes, or one before the
-- last change, where that many calls came before that change.
abbrev pub IsImageFrom : Areas → List Change → ℕ → Areas → Type 0
IsImageFrom first [] t image = IsImage first [] image
IsImageFrom first (change ∷ before) t image =
    IsImage first (change ∷ before) image ⊎ ((t ≤ change.before) × IsImageFrom first before t image)

-- what a disk in memory tells, as a disk
abbrev pub state_of : DiskView → DiskState
state_of disk = record {
  reads = Some (areas_of disk);
  clock = disk.calls;
  images = λ t image. (t ≤ disk.calls) × IsImageFrom disk.first disk.changes t image;
}

-- the changes by the first calls, of this number
abbrev pub changes_until : ℕ → List Change → List Change
changes_until moment [] = []
changes_until moment (change ∷ before) = if ltb change.before moment then change ∷ before else changes_until moment before

-- what an area held when it was last made stable
abbrev pub synced_after : Area → List ℕ → List Change → List ℕ
synced_after area first [] = first
synced_after area first (change ∷ before) =
    if is_same change.area area
    then (if is_sync change.step then bytes_after area first before else synced_after area first before)
    else synced_after area first before

-- what all areas held when they were last made stable
abbrev pub synced_areas : Areas → List Change → Areas
synced_areas first changes = record {
  log = synced_after Log first.log changes;
  home = synced_after Home first.home changes;
  journal = synced_after Journal first.journal changes;
  second = synced_after Second first.second changes;
}

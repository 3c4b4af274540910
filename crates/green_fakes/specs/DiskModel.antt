-- The disk model in words of its own: what a crash may leave of an area since it was last made stable.
use Rattle.std.specs.Prelude.{◌≡◌, ◌⊎◌, ◌↔◌, ℕ, ◌+◌, ◌<◌, ◌≤◌, min, max, Bool, true, false, if◌then◌else◌, List, [], ◌∷◌, length, get_or}
use Rattle.green_io.specs.declared.disk.Area.{Area}
use Rattle.green_io.specs.Areas.{is_same}
use Rattle.green_io.specs.Disk.{Torn, PartlyCut}
use Rattle.green_fakes.specs.DiskView.{bytes_after}
use Rattle.green_fakes.specs.DiskImages.{IsLeft, synced_after}
use Rattle.green_fakes.specs.declared.change.Step.{Step}
use Rattle.green_fakes.specs.declared.change.Step.TheVariants.{Write, FailedWrite, Cut, FailedCut, Sync}
use Rattle.green_fakes.specs.declared.change.Change.{Change}

-- the byte at this place is the same
abbrev pub IsSameAt : List ℕ → List ℕ → ℕ → Type 0
IsSameAt old new i = get_or new i 0 ≡ get_or old i 0

-- Amid a write: the end is anywhere from the old one to the greatest one, and each byte in front of the old end that
-- is not in the range that was to be written stays.
pub record StaysBeside (at n : ℕ) (old new : List ℕ) : Type 0 where
  pub no_shorter : length old ≤ length new
  pub no_longer : length new ≤ max (length old) (at + n)
  pub stays : (i : ℕ) → i < length old → (i < at) ⊎ (at + n ≤ i) → IsSameAt old new i

-- amid a cut: the end is anywhere from the new one to the old one, and each byte in front of it stays
pub record StaysBefore (n : ℕ) (old new : List ℕ) : Type 0 where
  pub no_shorter : min n (length old) ≤ length new
  pub no_longer : length new ≤ length old
  pub stays : (i : ℕ) → i < length new → IsSameAt old new i

-- what a crash may leave amid one call is just that
pub record CallsAreModelled : Type 0 where
  pub writes : (at n : ℕ) (old new : List ℕ) → Torn at n old new ↔ StaysBeside at n old new
  pub cuts : (n : ℕ) (old new : List ℕ) → PartlyCut n old new ↔ StaysBefore n old new

-- the least end of an area after a step, of the least before it and of what it reads then
abbrev pub least_by : Step → ℕ → List ℕ → ℕ
least_by (Write at bytes) least reads = least
least_by (FailedWrite at count) least reads = least
least_by (Cut to) least reads = min to least
least_by (FailedCut to) least reads = min to least
least_by Sync least reads = length reads

-- and the greatest
abbrev pub greatest_by : Step → ℕ → List ℕ → ℕ
greatest_by (Write at bytes) greatest reads = max greatest (at + length bytes.items)
greatest_by (FailedWrite at count) greatest reads = max greatest (at + count)
greatest_by (Cut to) greatest reads = greatest
greatest_by (FailedCut to) greatest reads = greatest
greatest_by Sync greatest reads = length reads

-- the least end since an area was last made stable
abbrev pub least_end : Area → List ℕ → List Change → ℕ
least_end area first [] = length first
least_end area first (change ∷ before) =
    if is_same change.area area
    then least_by change.step (least_end area first before) (bytes_after area first before)
    else least_end area first before

-- the greatest end since then
abbrev pub greatest_end : Area → List ℕ → List Change → ℕ
greatest_end area first [] = length first
greatest_end area first (change ∷ before) =
    if is_same change.area area
    then greatest_by change.step (greatest_end area first before) (bytes_after area first before)
    else greatest_end area first before

-- The byte at this place is in the range of a write of so many bytes at a place, or between the least end and that
-- place, where a write past the end leaves zeros.
abbrev pub IsWithin : ℕ → ℕ → ℕ → ℕ → Type 0
IsWithin at n least i = (min at least ≤ i) × (i < at + n)

-- the byte at this place was written by the step, or before it
abbrev pub IsWrittenBy : Step → ℕ → (ℕ → Type 0) → ℕ → Type 0
IsWrittenBy (Write at bytes) least written i = IsWithin at (length bytes.items) least i ⊎ written i
IsWrittenBy (FailedWrite at count) least written i = IsWithin at count least i ⊎ written i
IsWrittenBy (Cut to) least written i = written i
IsWrittenBy (FailedCut to) least written i = written i
IsWrittenBy Sync least written i = ⊥

abbrev pub IsWrittenWhere : Bool → Step → ℕ → (ℕ → Type 0) → ℕ → Type 0
IsWrittenWhere true step least written i = IsWrittenBy step least written i
IsWrittenWhere false step least written i = written i

-- the byte at this place was written since the area was last made stable, also by a call that failed
abbrev pub IsWritten : Area → List ℕ → List Change → ℕ → Type 0
IsWritten area first [] i = ⊥
IsWritten area first (change ∷ before) i =
    IsWrittenWhere (is_same change.area area) change.step (least_end area first before) (IsWritten area first before) i

-- What a crash may leave of an area: its end is between the least and the greatest since it was last made stable, and
-- each byte that was not written since then is the one that was stable.
pub record IsModelled (area : Area) (first : List ℕ) (changes : List Change) (image : List ℕ) : Type 0 where
  pub no_shorter : least_end area first changes ≤ length image
  pub no_longer : length image ≤ greatest_end area first changes
  pub stays : (i : ℕ) → i < length image → IsWritten area first changes i ⊎ ((i < length (synced_after area first changes)) × IsSameAt (synced_after area first changes) image i)

abbrev pub ImagesAreModelled : Type 0
ImagesAreModelled = (area : Area) (first : List ℕ) (changes : List Change) (image : List ℕ) → IsLeft area first changes image → IsModelled area first changes image

-- no cut of the area stands behind its last sync, in a list of changes with the latest first
abbrev pub IsUncutBy : Step → Type 0 → Type 0
IsUncutBy (Write at bytes) before = before
IsUncutBy (FailedWrite at count) before = before
IsUncutBy (Cut to) before = ⊥
IsUncutBy (FailedCut to) before = ⊥
IsUncutBy Sync before = Unit {0}

abbrev pub IsUncutWhere : Bool → Step → Type 0 → Type 0
IsUncutWhere true step before = IsUncutBy step before
IsUncutWhere false step before = before

abbrev pub IsUncut : Area → List Change → Type 0
IsUncut area [] = Unit {0}
IsUncut area (change ∷ before) = IsUncutWhere (is_same change.area area) change.step (IsUncut area before)

-- where no cut stands behind the last sync, a crash may leave all that is so
abbrev pub ModelledAreImages : Type 0
ModelledAreImages = (area : Area) (first : List ℕ) (changes : List Change) (image : List ℕ) → IsUncut area changes → IsModelled area first changes image → IsLeft area first changes image

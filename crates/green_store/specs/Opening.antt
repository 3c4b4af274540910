-- Opening a store from a log.
use Rattle.std.specs.Prelude.{◌≡◌, ◌⊎◌, ℕ, ◌+◌, ◌<◌, ◌≤◌, List, [], ◌∷◌, ◌++◌, length, take, map, Option, None, Some, Result, Ok, Err}
use Rattle.febe_data.specs.Plain.{PlainEntry}
use Rattle.entry_codec.specs.Logged.{PlainLogged, untimed, entries_of, moments_of}
use Rattle.entry_codec.specs.declared.format.LogFormat.{LogFormat}
use Rattle.green_io.specs.Areas.{Areas}
use Rattle.green_io.specs.Disk.{WhereTold}
use Rattle.entry_fits.specs.Fits.{Fits, AllFit}
use Rattle.edit_log.specs.Images.{AreEntries, AsRead}
use Rattle.edit_log.specs.Log.{gated}
use Rattle.edit_log.specs.Second.{begins_at, ReadsIn, IsDamaged, IsMoved, BothTold, IsAsFound}
use Rattle.edit_log.specs.declared.opening.LogFault.{LogFault}
use Rattle.edit_log.specs.declared.opening.LogFault.TheVariants as faults
use Rattle.world_rules.specs.Apply.{world_of}
use Rattle.world_rules.specs.History.{restart_entry}
use Rattle.page_journal.specs.Pages.{Pages}
use Rattle.page_journal.specs.declared.page_fault.PageFault.{PageFault}
use Rattle.page_journal.specs.declared.page_fault.PageFault.TheVariants as pages
use Rattle.green_flush.specs.Loads.{TreesAt, Loads}
use Rattle.paged_world.specs.Standing.{StandFor, AreIn}
use Rattle.green_store.specs.declared.opening.OpenFault.{OpenFault}
use Rattle.green_store.specs.declared.opening.OpenFault.TheVariants.{Damaged, Disk, Memory}
use Rattle.green_store.specs.StoreView.{StoreView}

-- this holds of the place where the log is damaged
abbrev pub OnDamagedLog : {T : Type 0} → Result T OpenFault → (ℕ → Type 0) → Type 0
OnDamagedLog (Ok opened) fact = Unit {0}
OnDamagedLog (Err (Damaged at)) fact = fact at
OnDamagedLog (Err Disk) fact = Unit {0}
OnDamagedLog (Err Memory) fact = Unit {0}

-- this holds if the disk failed
abbrev pub OnDiskFailed : {T : Type 0} → Result T OpenFault → Type 0 → Type 0
OnDiskFailed (Ok opened) fact = Unit {0}
OnDiskFailed (Err (Damaged at)) fact = Unit {0}
OnDiskFailed (Err Disk) fact = fact
OnDiskFailed (Err Memory) fact = Unit {0}

-- this holds unless the disk failed
abbrev pub UnlessDiskFailed : {T : Type 0} → Result T OpenFault → Type 0 → Type 0
UnlessDiskFailed (Ok opened) fact = fact
UnlessDiskFailed (Err (Damaged at)) fact = fact
UnlessDiskFailed (Err Disk) fact = Unit {0}
UnlessDiskFailed (Err Memory) fact = fact

-- what a fault of the log is for one who opens the store
abbrev pub fault_of : LogFault → OpenFault
fault_of (faults.Damaged at) = Damaged at
fault_of faults.Disk = Disk
fault_of faults.Memory = Memory

-- and what a fault of the pages is
abbrev pub fault_of_pages : PageFault → OpenFault
fault_of_pages pages.Disk = Disk
fault_of_pages pages.Memory = Memory

-- the history of a back end that has just opened with these entries: they, and then a restart
abbrev pub opened_with : List PlainEntry → List PlainEntry
opened_with entries = entries ++ restart_entry ∷ []

-- these are the entries of the logged area as it is read, with their moments, in whichever format it has
abbrev pub ReadsRows : List PlainLogged → Areas → Type 0
ReadsRows rows areas = (format : LogFormat) × ReadsIn format rows areas

-- A back end opened with the entries of the logged area as it was read, which fit one after another, and with their moments.
pub record IsOpenedFrom (reads : Option Areas) (history : List PlainEntry) (moments : List ℕ) : Type 0 where
  pub rows : List PlainLogged
  pub are_entries : AreEntries rows
  pub history_is : history ≡ opened_with (entries_of rows)
  pub moments_are : moments ≡ moments_of rows
  pub read : WhereTold reads (ReadsRows rows)

-- These entries in front fit one after another, and the one behind them does not fit after them.
pub record IsUnfitBehind (front entries : List PlainEntry) : Type 0 where
  pub entry : PlainEntry
  pub behind : List PlainEntry
  pub parts : entries ≡ front ++ entry ∷ behind
  pub fit : AllFit [] front
  pub unfit : ¬ Fits front entry

-- So many entries in front fit one after another, and the one behind them does not fit.
abbrev pub IsUnfitFrom : ℕ → List PlainEntry → Type 0
IsUnfitFrom count entries = (count < length entries) × IsUnfitBehind (take count entries) entries

-- these entries with no moments
abbrev pub untimed_all : List PlainEntry → List PlainLogged
untimed_all entries = map untimed entries

-- where the gate behind these entries stands in the area of this format
abbrev pub gate_place : LogFormat → List PlainLogged → ℕ
gate_place format rows = begins_at format + length (gated format rows)

-- The logged area can be read, and the entry behind the gate at this place of the area is the first that does not fit after
-- those before it.
pub record IsUnfitAt (place : ℕ) (areas : Areas) : Type 0 where
  pub format : LogFormat
  pub rows : List PlainLogged
  pub count : ℕ
  pub read : ReadsIn format rows areas
  pub unfit : IsUnfitFrom count (entries_of rows)
  pub at : place ≡ gate_place format (take count rows)

-- The logged area is damaged at this gate: the first behind which no body stands, or one too many, anywhere; or, where there is
-- none, the first behind which an entry stands that does not fit.
abbrev pub IsDamagedLog : ℕ → Areas → Type 0
IsDamagedLog place areas = IsDamaged place areas ⊎ IsUnfitAt place areas

-- What opening leaves of the areas for a log: the entries that it read are in the second area, and that of before is empty; or it
-- stopped before, and they are as they were, or the log of before is and the second area is still closed.
abbrev pub IsAsBefore : Areas → Areas → Type 0
IsAsBefore old new = ((format : LogFormat) × (rows : List PlainLogged) × ReadsIn format rows old × IsMoved format rows old new) ⊎ IsAsFound old new

-- so it is with what the disk reads, where it tells that
abbrev pub ReadsAsBefore : Option Areas → Option Areas → Type 0
ReadsAsBefore old new = BothTold old new IsAsBefore

-- where no body, or one too many, stands behind this gate of what the disk reads, that is left as it was
abbrev pub LeavesMisspelled : ℕ → Option Areas → Option Areas → Type 0
LeavesMisspelled place old new = AsRead old (IsDamaged place) → new ≡ old

-- So whatever entries the logged area had, with their moments, it has them still.
abbrev pub OpeningKeepsRows : Type 0
OpeningKeepsRows = (old new : Areas) (rows : List PlainLogged) → IsAsBefore old new → ReadsRows rows old → ReadsRows rows new

-- ---- pages

-- the trees stand for the world of as many first entries as their position says
pub record StandAt (at : TreesAt) (entries : List PlainEntry) : Type 0 where
  pub within : at.position ≤ length entries
  pub stand : StandFor at.trees (world_of (take at.position entries))

-- The store goes on from these trees. Where they stand for all entries, its trees are in the condition of these.
pub record GoesOnFrom (at : TreesAt) (entries : List PlainEntry) (store : StoreView) : Type 0 where
  pub stand : StandAt at entries
  pub flushed_is : store.flushed ≡ at.position
  pub condition : 0 < at.position → at.position ≡ length entries → AreIn at.trees store.trees

-- the trees that loading gives are gone on from exactly where they stand for first entries of the log; else they are put aside
abbrev pub IsFlushedAt : Option TreesAt → List PlainEntry → StoreView → Type 0
IsFlushedAt None entries store = store.flushed ≡ 0
IsFlushedAt (Some at) entries store = GoesOnFrom at entries store ⊎ ((¬ StandAt at entries) × (store.flushed ≡ 0))

-- so it is with what loading gives of these pages
pub record IsFlushedFrom (pages : Pages) (store : StoreView) : Type 0 where
  pub now : Option TreesAt
  pub loads : Loads pages now
  pub entries : List PlainEntry
  pub history_is : store.history ≡ opened_with entries
  pub flushed : IsFlushedAt now entries store

-- ---- a whole log

-- it is not damaged, and if it is opened the history is that of these entries, and the moments are theirs
abbrev pub OpensAs : Result StoreView OpenFault → List PlainLogged → Type 0
OpensAs (Ok store) rows = (store.history ≡ opened_with (entries_of rows)) × (store.moments ≡ moments_of rows)
OpensAs (Err (Damaged at)) rows = ⊥
OpensAs (Err Disk) rows = Unit {0}
OpensAs (Err Memory) rows = Unit {0}

-- The bytes of the areas alone decide: they are read as entries that fit one after another, or they are damaged at one place, and
-- never both.
pub record OneOpening (areas : Areas) : Type 0 where
  pub place : (a b : ℕ) → IsDamagedLog a areas → IsDamagedLog b areas → a ≡ b
  pub apart : (rows : List PlainLogged) (place : ℕ) → ReadsRows rows areas → AllFit [] (entries_of rows) → ¬ IsDamagedLog place areas

abbrev pub EachHasOneOpening : Type 0
EachHasOneOpening = (areas : Areas) → OneOpening areas

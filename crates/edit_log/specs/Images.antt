-- What the images of a disk have for its log, while it is open and while calls run.
use Rattle.std.specs.Prelude.{◌≡◌, ◌≢◌, ◌⊎◌, ℕ, ◌≤◌, List, [], ◌∷◌, ◌++◌, length, Option, None, Some, IsSome, IsTrue}
use Rattle.std.specs.List.{AllByRecursion}
use Rattle.entry_codec.specs.Bodies.{HasBody}
use Rattle.entry_codec.specs.Format.{body_of}
use Rattle.entry_codec.specs.Logged.{PlainLogged, entries_of}
use Rattle.entry_codec.specs.declared.format.LogFormat.TheVariants.{New}
use Rattle.green_io.specs.Areas.{Areas}
use Rattle.green_io.specs.Disk.{DiskState, images_now}
use Rattle.entry_fits.specs.Fits.{AllFit}
use Rattle.edit_log.specs.Log.{gated, most_entries, IsNext}
use Rattle.edit_log.specs.Second.{front_of, HoldsWhole, IsOpened}
use Rattle.edit_log.specs.LogView.{LogView, is_pending}
use Rattle.edit_log.specs.declared.pending.Pending.{Pending}
use Rattle.edit_log.specs.declared.pending.Pending.TheVariants.{Nothing, Shut, Gated}

-- the second area has these bytes in front, and a byte 0 behind them
abbrev pub IsShut : List ℕ → List ℕ → Type 0
IsShut front second = (behind : List ℕ) × (second ≡ front ++ (0 ∷ behind))

-- the second area has these bytes in front, some byte behind them, and then a body and a byte 0
abbrev pub IsAjar : List ℕ → List ℕ → List ℕ → Type 0
IsAjar front body second = (gate : ℕ) × (behind : List ℕ) × (second ≡ front ++ (gate ∷ (body ++ (0 ∷ behind))))

-- the second area of an image has this
abbrev pub InSecond : (List ℕ → Type 0) → Areas → Type 0
InSecond fact image = fact image.second

-- The disk tells what it reads, its second area ends behind these bytes, at this place, and that of every image has this.
pub record SecondImages (disk : DiskState) (end : ℕ) (front : List ℕ) (fact : List ℕ → Type 0) : Type 0 where
  pub told : IsSome disk.reads
  pub at_end : end ≡ length front
  pub each : (image : Areas) → images_now disk image → InSecond fact image

-- these may be the entries of a log: each has a body, they are few enough, and they fit one after another
pub record AreEntries (rows : List PlainLogged) : Type 0 where
  pub spelled : AllByRecursion (HasBody New) rows
  pub few : length rows ≤ most_entries
  pub fit : AllFit [] (entries_of rows)

-- the log over this disk is open with these entries: no edit is pending, and every image has a byte 0 behind them
pub record IsOpen (disk : DiskState) (log : LogView) (rows : List PlainLogged) : Type 0 where
  pub idle : log.pending ≡ Nothing
  pub images : SecondImages disk log.end (front_of rows) (IsShut (front_of rows))

-- What every image has behind the entries while an edit is pending: still a byte 0, where no 1 was written to the
-- gate; or any byte, and behind it the body of the edit and a byte 0.
abbrev pub HasGate : Pending → List PlainLogged → PlainLogged → List ℕ → Type 0
HasGate Nothing rows row second = ⊥
HasGate Shut rows row second = IsShut (front_of rows) second
HasGate Gated rows row second = IsAjar (front_of rows) (body_of New row) second

-- this edit is pending in the log over this disk, behind these entries
pub record IsPending (disk : DiskState) (log : LogView) (rows : List PlainLogged) (row : PlainLogged) : Type 0 where
  pub images : SecondImages disk log.end (front_of rows) (HasGate log.pending rows row)
  pub busy : IsTrue (is_pending log.pending)

-- a whole logged area with these entries, or with one more
abbrev pub HoldsEither : List PlainLogged → PlainLogged → Areas → Type 0
HoldsEither rows row image = HoldsWhole rows image ⊎ HoldsWhole (rows ++ row ∷ []) image

-- an append of these bytes may be asked for: they are the body of an entry that may come next, and a byte 0
pub record IsAppendable (rows : List PlainLogged) (row : PlainLogged) (bytes : List ℕ) : Type 0 where
  pub before : AreEntries rows
  pub next : IsNext New rows row
  pub parts : bytes ≡ body_of New row ++ (0 ∷ [])

-- an edit may be taken back: these are the entries before it, and it may come next
pub record IsMendable (rows : List PlainLogged) (row : PlainLogged) : Type 0 where
  pub before : AreEntries rows
  pub next : IsNext New rows row

-- the disk tells what it reads, and this holds of it
abbrev pub AsRead : Option Areas → (Areas → Type 0) → Type 0
AsRead None fact = ⊥
AsRead (Some areas) fact = fact areas

-- the log hides this entry, which may come next, behind a gate that is not 0
pub record Hides (rows : List PlainLogged) (row : PlainLogged) (log : List ℕ) : Type 0 where
  pub gate : ℕ
  pub behind : List ℕ
  pub torn : gate ≢ 0
  pub next : IsNext New rows row
  pub parts : log ≡ gated New rows ++ (gate ∷ (body_of New row ++ (0 ∷ behind)))

-- A whole logged area with these entries, or with them and the one that an open second area hid behind them when it was read. A
-- log of before that hides one is not closed at its end, so it holds what was read until it has moved.
abbrev pub HoldsAsRead : List PlainLogged → Option Areas → Areas → Type 0
HoldsAsRead rows reads image =
    HoldsWhole rows image
    ⊎ ((row : PlainLogged) × AsRead reads (InSecond (IsOpened (Hides rows row))) × HoldsWhole (rows ++ row ∷ []) image)

-- What the images of a disk have in Home and in the Journal while a commit or an opening runs.
use Rattle.std.specs.Prelude.{◌≡◌, ◌⊎◌, ℕ, ◌∷◌, drop, IsSome}
use Rattle.green_io.specs.declared.disk.Area.{Area}
use Rattle.green_io.specs.declared.disk.Area.TheVariants.{Log, Home, Journal, Second}
use Rattle.green_io.specs.Areas.{Areas}
use Rattle.green_io.specs.Disk.{DiskState, images_now}
use Rattle.std.specs.Prelude.{Bool, true, false}
use Rattle.page_journal.specs.Pages.{Bytes, Pages, Writes, pages_of, laid, AreSame, Extends, Spares}
use Rattle.page_journal.specs.JournalBytes.{staged, opened}

-- the areas of the pages
abbrev pub is_paged : Area → Bool
is_paged Log = false
is_paged Home = true
is_paged Journal = true
is_paged Second = false

-- the gate is a 0 that is there
abbrev pub IsShut : Bytes → Type 0
IsShut journal = (behind : Bytes) × (journal ≡ 0 ∷ behind)

-- the gate may be any byte that is there, and these pages are staged
pub record IsAjar (writes : Writes) (journal : Bytes) : Type 0 where
  pub gate : ℕ
  pub behind : Bytes
  pub parts : journal ≡ gate ∷ behind
  pub has : staged (drop 4095 behind) ≡ writes

-- the gate is open, and these pages are staged
pub record IsGated (writes : Writes) (journal : Bytes) : Type 0 where
  pub behind : Bytes
  pub parts : journal ≡ 1 ∷ behind
  pub has : staged (drop 4095 behind) ≡ writes

-- an image with these bytes in Home, whose Journal has this
pub record HomeIs (home : Bytes) (fact : Bytes → Type 0) (image : Areas) : Type 0 where
  pub home_is : image.home ≡ home
  pub journal_has : fact image.journal

-- an image in which the writes are staged behind an open gate, and Home has every page that was there but theirs
pub record IsMidway (writes : Writes) (before : Bytes) (image : Areas) : Type 0 where
  pub spared : Spares writes (pages_of before) (pages_of image.home)
  pub gated : IsGated writes image.journal

-- the disk tells what it reads, and every image has this
pub record AllHave (disk : DiskState) (fact : Areas → Type 0) : Type 0 where
  pub told : IsSome disk.reads
  pub each : (image : Areas) → images_now disk image → fact image

-- Opening an image gives the pages before the writes, or after them. After them, a page that was not there before, and
-- that none of the writes is to, may be there too.
abbrev pub GivesEither : Pages → Writes → Areas → Type 0
GivesEither before writes image = AreSame before (opened image) ⊎ Extends (laid writes before) (opened image)

-- the same, where the first writes were not yet finished when the second were asked for
abbrev pub GivesAny : Pages → Writes → Writes → Areas → Type 0
GivesAny before first second image = GivesEither before first image ⊎ Extends (laid second (laid first before)) (opened image)

-- What opening gives on an image of an opening: what it gives on these areas, or Home with the staged pages laid over it.
abbrev pub GivesSettled : Areas → Areas → Type 0
GivesSettled areas image =
    AreSame (opened areas) (opened image)
    ⊎ Extends (laid (staged (drop 4096 areas.journal)) (pages_of areas.home)) (opened image)

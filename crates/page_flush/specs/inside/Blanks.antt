-- What a blank start leaves.
use Rattle.std.specs.Prelude.{◌≡◌, ◌⊎◌, Bool, true, false}
use Rattle.green_io.specs.Areas.{Areas}
use Rattle.green_io.specs.Disk.{DiskState}
use Rattle.page_journal.specs.JournalBytes.{opened}
use Rattle.page_journal.specs.JournalView.{JournalView}
use Rattle.page_saves.specs.Courses.{Saved, Blank, Holds, GivesOne}
use Rattle.page_saves.specs.Resting.{RestsOn}
use Rattle.page_flush.specs.Saving.{blank_page}

-- opening the image gives what was held, or a blank start where one is needed
abbrev pub GivesBegun : Saved → Saved → Bool → Areas → Type 0
GivesBegun was saved needed image = GivesOne was saved image ⊎ ((needed ≡ true) × Holds (Blank blank_page) (opened image))

-- the blank start was made, or none is needed and the pages hold what they held
abbrev pub IsBegun : DiskState → JournalView → Saved → Saved → Bool → Type 0
IsBegun disk journal was saved true = RestsOn disk journal (Blank blank_page) (Blank blank_page)
IsBegun disk journal was saved false = RestsOn disk journal was saved

-- a blank start is needed, and was not made, or may have been
abbrev pub IsNotBegun : DiskState → JournalView → Saved → Saved → Bool → Type 0
IsNotBegun disk journal was saved needed =
    (needed ≡ true) × (RestsOn disk journal was saved ⊎ RestsOn disk journal saved (Blank blank_page))

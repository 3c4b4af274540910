-- How a disk rests between commits of a save: what every image gives then.
use Rattle.std.specs.Prelude.{◌⊎◌, []}
use Rattle.green_io.specs.Disk.{DiskState}
use Rattle.page_journal.specs.JournalView.{JournalView, IsClean, IsUnfinished}
use Rattle.page_journal.specs.Pages.{Bytes, Pages, Writes, pages_of, laid, Extends}
use Rattle.page_saves.specs.Courses.{Saved, Course, begun, after, IsOn}

-- no commit is unfinished, and the pages are on this course
pub record IsSettledOn (disk : DiskState) (journal : JournalView) (now : Course) : Type 0 where
  pub home : Bytes
  pub clean : IsClean disk journal home
  pub on : IsOn now (pages_of home)

-- A commit is unfinished: before it the pages were on one course, and once it is finished they are on the other, whatever
-- more pages come.
pub record IsBetween (disk : DiskState) (journal : JournalView) (was now : Course) : Type 0 where
  pub before : Bytes
  pub writes : Writes
  pub unfinished : IsUnfinished disk journal before writes
  pub had : IsOn was (pages_of before)
  pub will : (pages : Pages) → Extends (laid writes (pages_of before)) pages → IsOn now pages

-- the pages are on the second course, or come to it from the first one once an unfinished commit is finished
abbrev pub Rests : DiskState → JournalView → Course → Course → Type 0
Rests disk journal was now = IsSettledOn disk journal now ⊎ IsBetween disk journal was now

-- A save that began where the pages held the second of these, or came to that from the first, has written these pages. A
-- commit of its own may be unfinished, or one of before.
abbrev pub RestsAfter : DiskState → JournalView → Saved → Saved → Writes → Type 0
RestsAfter disk journal was saved written =
    Rests disk journal (begun was) (after saved written) ⊎ Rests disk journal (begun saved) (after saved written)

-- the pages hold the second of these, or come to that from the first or from itself
abbrev pub RestsOn : DiskState → JournalView → Saved → Saved → Type 0
RestsOn disk journal was saved = RestsAfter disk journal was saved []

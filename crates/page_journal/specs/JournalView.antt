-- What contracts see of an open journal, and what the disk has under it.
use Rattle.std.specs.Prelude.{◌≡◌, ◌⊎◌}
use Rattle.green_io.specs.Disk.{DiskState}
use Rattle.page_journal.specs.declared.stage.Stage.{Stage}
use Rattle.page_journal.specs.declared.stage.Stage.TheVariants.{Clean, Gating, Writing, Closing}
use Rattle.page_journal.specs.Pages.{Bytes, Writes, pages_of, laid, Extends}
use Rattle.page_journal.specs.JournalBytes.{AreWrites, record_of}
use Rattle.page_journal.specs.Images.{IsShut, IsAjar, HomeIs, IsMidway, AllHave}

-- how far the commit came that is not finished, and its record
pub record JournalView : Type 0 where
  pub stage : Stage
  pub kept : Bytes

-- every image has these bytes in Home, and a gate that is a 0
abbrev pub IsSettled : DiskState → Bytes → Type 0
IsSettled disk home = AllHave disk (HomeIs home IsShut)

-- no commit is unfinished, and Home has these bytes, whatever a crash leaves
pub record IsClean (disk : DiskState) (journal : JournalView) (home : Bytes) : Type 0 where
  pub idle : journal.stage ≡ Clean
  pub images : IsSettled disk home

-- The pages are laid over these bytes of Home, they are stable, and the gate is being closed.
pub record IsClosing (disk : DiskState) (before : Bytes) (writes : Writes) : Type 0 where
  pub home : Bytes
  pub laid_over : Extends (laid writes (pages_of before)) (pages_of home)
  pub images : AllHave disk (HomeIs home (IsAjar writes))

-- What every image has at the stage in which a commit of these writes stopped, over these bytes of Home: while its gate
-- is opened, while its pages are laid over Home, or while its gate is closed.
abbrev pub IsAt : DiskState → Stage → Bytes → Writes → Type 0
IsAt disk Clean before writes = ⊥
IsAt disk Gating before writes = AllHave disk (HomeIs before (IsAjar writes))
IsAt disk Writing before writes = AllHave disk (IsMidway writes before)
IsAt disk Closing before writes = IsClosing disk before writes

-- this is the record of these writes, which one commit may ask for
pub record IsRecordOf (kept : Bytes) (writes : Writes) : Type 0 where
  pub are : AreWrites writes
  pub spelled : kept ≡ record_of writes

-- a commit of these writes over these bytes of Home is not finished, and is kept to be finished
pub record IsUnfinished (disk : DiskState) (journal : JournalView) (before : Bytes) (writes : Writes) : Type 0 where
  pub kept : IsRecordOf journal.kept writes
  pub images : IsAt disk journal.stage before writes

-- No commit is unfinished, and Home is as before; or the commit of these writes is.
abbrev pub IsLeft : DiskState → JournalView → Bytes → Writes → Type 0
IsLeft disk journal before writes = IsClean disk journal before ⊎ IsUnfinished disk journal before writes

-- the bytes of Home once a commit that was unfinished is finished: they have its pages, and the pages before it
pub record IsFinished (before : Bytes) (writes : Writes) (home : Bytes) : Type 0 where
  pub laid_over : Extends (laid writes (pages_of before)) (pages_of home)

-- these hold of the bytes of Home that a finished commit left
abbrev pub AfterFinished : Bytes → Writes → (Bytes → Type 0) → Type 0
AfterFinished before writes fact = (home : Bytes) × IsFinished before writes home × fact home

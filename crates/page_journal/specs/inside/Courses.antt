-- What phases in their order leave.
use Rattle.std.specs.Prelude.{◌≡◌, ◌⊎◌}
use Rattle.green_io.specs.Areas.{Areas}
use Rattle.green_io.specs.Disk.{DiskState}
use Rattle.page_journal.specs.declared.stage.Stage.{Stage}
use Rattle.page_journal.specs.declared.stage.Stage.TheVariants.{Clean}
use Rattle.page_journal.specs.Pages.{Bytes, Pages, Writes, laid, Extends}
use Rattle.page_journal.specs.JournalBytes.{opened}
use Rattle.page_journal.specs.JournalView.{IsSettled, IsAt, IsFinished}

-- opening the image gives the pages after the writes
abbrev pub GivesLaid : Pages → Writes → Areas → Type 0
GivesLaid before writes image = Extends (laid writes before) (opened image)

-- no commit is unfinished, and Home is as before; or the commit of these writes stopped at this stage
abbrev pub IsLeftAt : DiskState → Stage → Bytes → Writes → Type 0
IsLeftAt disk stage before writes = ((stage ≡ Clean) × IsSettled disk before) ⊎ IsAt disk stage before writes

-- the commit of these writes is finished: Home has its pages, and is settled
pub record IsFinishedOver (disk : DiskState) (before : Bytes) (writes : Writes) : Type 0 where
  pub home : Bytes
  pub finished : IsFinished before writes home
  pub settled : IsSettled disk home

use Rattle.std.proofs.Common.{◌≤◌, map, [], length}
use Rattle.std.specs.List.{AllByRecursion}
use Rattle.green_io.specs.Disk.{LeavesBut}
use Rattle.page_journal.specs.Images.{is_paged}
use Rattle.page_journal.specs.JournalBytes.{IsWrite, write_of, writes_of}
use Rattle.page_saves.specs.Courses.{Saved, LeadsEach}
use Rattle.page_saves.specs.Resting.{RestsOn}
use Rattle.page_saves.proofs.Grouped.{SoFar}
use Rattle.page_saves.proofs.commits.write_pages.Given as goal

abbrev pub invariant-loop-rest : goal.invariant-loop-rest
invariant-loop-rest g l = record {
  each : AllByRecursion IsWrite (map write_of l.rest);
  course : (was saved : Saved) → LeadsEach saved [] (writes_of l.fn.pages) → RestsOn (g.D.Disk.state l.initial.disk) l.initial.journal was saved
      → SoFar (g.D.Disk.state l.initial.disk) (g.D.Disk.state l.disk) l.journal was saved (writes_of l.fn.pages) (writes_of l.rest);
  others : LeavesBut is_paged (g.D.Disk.state l.initial.disk) (g.D.Disk.state l.disk);
  never_falls : g.D.Disk.fault_count l.initial.disk ≤ g.D.Disk.fault_count l.disk;
}

abbrev pub decreases-loop-rest : goal.decreases-loop-rest
decreases-loop-rest g l = length l.rest

-- The pages that are left, and what the disk has of those that are written.
use Rattle.std.proofs.Common.{◌-◌, ◌≤◌, IsSome}
use Rattle.green_io.specs.declared.disk.Area.TheVariants as area
use Rattle.green_io.specs.Areas.{is_same}
use Rattle.green_io.specs.Disk.{LeavesBut}
use Rattle.page_journal.specs.Pages.{Writes}
use Rattle.page_journal.specs.inside.Phases.{IsRun}
use Rattle.page_journal.proofs.Amid.{IsPartway}
use Rattle.page_journal.proofs.phases.write_pages.Given as goal

abbrev pub invariant-loop : goal.invariant-loop
invariant-loop g l = record {
  partway : (writes : Writes) → IsRun l.count l.pages writes → IsPartway (g.D.Disk.state l.initial.disk) (g.D.Disk.state l.disk) (l.count - l.counter) l.rest writes;
  told : IsSome (g.D.Disk.state l.initial.disk).reads → IsSome (g.D.Disk.state l.disk).reads;
  others : LeavesBut (is_same area.Home) (g.D.Disk.state l.initial.disk) (g.D.Disk.state l.disk);
  faults : g.D.Disk.fault_count l.initial.disk ≤ g.D.Disk.fault_count l.disk;
}

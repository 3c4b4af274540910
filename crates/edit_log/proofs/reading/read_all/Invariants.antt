-- What was read is the front of the area, and the disk is as it was.
use Rattle.std.proofs.Common.{◌≡◌, ◌-◌, ◌≤◌, length}
use Rattle.green_io.specs.Areas.{area_of}
use Rattle.green_io.specs.Disk.{LeavesOnly, Nothing, WhereTold}
use Rattle.edit_log.specs.inside.Pieces.{IsRead}
use Rattle.edit_log.proofs.reading.read_all.Given as goal

abbrev pub invariant-loop-area : goal.invariant-loop-area
invariant-loop-area g l = record {
  reads : (g.D.Disk.state l.disk).reads ≡ (g.D.Disk.state l.initial.disk).reads;
  crash : LeavesOnly (g.D.Disk.state l.initial.disk) (g.D.Disk.state l.disk) Nothing;
  faults : g.D.Disk.fault_count l.initial.disk ≤ g.D.Disk.fault_count l.disk;
  front : WhereTold (g.D.Disk.state l.initial.disk).reads (λ areas. IsRead l.bytes.items (area_of l.area areas));
}

abbrev pub decreases-loop-area : goal.decreases-loop-area
decreases-loop-area g l = l.count - length l.bytes.items

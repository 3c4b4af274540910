-- Every seven chains that are named have those that were read, and the disk is as it was.
use Rattle.std.proofs.Common.{◌≡◌, ◌+◌, ◌≤◌}
use Rattle.green_io.specs.Disk.{LeavesOnly, Nothing}
use Rattle.page_chains.proofs.HeaderReads.{GathersFrom}
use Rattle.page_chains.proofs.reading.read_chains.Given as goal

abbrev pub invariant-loop : goal.invariant-loop
invariant-loop g l = record {
  reads : (g.D.Disk.state l.disk).reads ≡ (g.D.Disk.state l.fn.disk).reads;
  crash : LeavesOnly (g.D.Disk.state l.fn.disk) (g.D.Disk.state l.disk) Nothing;
  faults : g.D.Disk.fault_count l.fn.disk ≤ g.D.Disk.fault_count l.disk;
  gathers : GathersFrom (g.D.Disk.state l.fn.disk).reads l.starts l.chains.items l.met l.rest l.counter;
  room : 7 ≤ l.counter + l.chains.spare;
}

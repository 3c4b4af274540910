-- Every chain from the start has what was read, and the disk is as it was.
use Rattle.std.proofs.Common.{◌≡◌, ◌≤◌}
use Rattle.green_io.specs.Disk.{LeavesOnly, Nothing}
use Rattle.page_chains.proofs.ChainReads.{WalksFrom}
use Rattle.page_chains.proofs.reading.read_chain.Given as goal

abbrev pub invariant-loop-left : goal.invariant-loop-left
invariant-loop-left g l = record {
  reads : (g.D.Disk.state l.disk).reads ≡ (g.D.Disk.state l.fn.disk).reads;
  crash : LeavesOnly (g.D.Disk.state l.fn.disk) (g.D.Disk.state l.disk) Nothing;
  faults : g.D.Disk.fault_count l.fn.disk ≤ g.D.Disk.fault_count l.disk;
  walks : WalksFrom (g.D.Disk.state l.fn.disk).reads l.fn.met l.fn.start l.chain.numbers.items l.chain.bytes.items l.met l.named l.left;
}

abbrev pub decreases-loop-left : goal.decreases-loop-left
decreases-loop-left g l = l.left

-- Nothing was read yet, or all that is wanted.
use Rattle.std.proofs.Common.{refl, arith}
use Rattle.green_io.specs.Disk.{Nothing}
use Rattle.green_io.proofs.Crash.{none_called}
use Rattle.page_journal.proofs.PageReads.{front_none}
use Rattle.page_journal.proofs.reading.read_range.Goals as goal

pub loop-area-init : goal.loop-area-init
loop-area-init g c = record {
  reads = refl;
  crash = none_called _ Nothing;
  faults = omega arith;
  front = front_none _ c.args.area c.args.at _ c.truncate.ensures.items;
}

-- A cut leaves what it may leave.
use Rattle.green_fakes.proofs.Images.{cuts_leave}
use Rattle.green_fakes.proofs.disk.MemoryDiskDisk.cut.Goals as goal

pub returns-clause-crash : goal.returns-clause-crash
returns-clause-crash c = cuts_leave c.args.self.now c.cut_bytes.new.self c.args.area c.args.length _ c.cut_bytes.ensures.answer c.cut_bytes.ensures.later

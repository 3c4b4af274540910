-- A sync leaves nothing new.
use Rattle.green_fakes.proofs.Images.{syncs_leave}
use Rattle.green_fakes.proofs.disk.MemoryDiskDisk.sync.Goals as goal

pub returns-clause-crash : goal.returns-clause-crash
returns-clause-crash c = syncs_leave c.args.self.now c.make_stable.new.self c.args.area _ c.make_stable.ensures.answer c.make_stable.ensures.later

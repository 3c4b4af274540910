-- A write leaves what it may leave, and where it fails what is read stays.
use Rattle.green_fakes.proofs.Images.{writes_leave, writes_part}
use Rattle.green_fakes.proofs.disk.MemoryDiskDisk.write.Goals as goal

pub returns-clause-part : goal.returns-clause-part
returns-clause-part c = writes_part c.args.self.now c.write_bytes.new.self c.args.area c.args.at c.args.bytes.now _ c.write_bytes.ensures.answer

pub returns-clause-crash : goal.returns-clause-crash
returns-clause-crash c = writes_leave c.args.self.now c.write_bytes.new.self c.args.area c.args.at c.args.bytes.now _ c.write_bytes.ensures.answer c.write_bytes.ensures.later

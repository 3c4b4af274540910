-- A crash may leave what was there before a step.
use Rattle.green_fakes.specs.DiskLaws.{stays_torn}
use Rattle.green_fakes.proofs.replay.tear_by.Goals as goal

pub returns-in-None-clause-torn : goal.returns-in-None-clause-torn
returns-in-None-clause-torn c = stays_torn c.args.step.now c.args.bytes.now

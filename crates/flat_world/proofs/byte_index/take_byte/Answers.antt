use Rattle.std.proofs.Common.{rules, Some}
use Rattle.flat_world.proofs.ByteIndexes.{taken}
use Rattle.flat_world.proofs.byte_index.take_byte.Goals as goal

pub returns-in-Some : goal.returns-in-Some
returns-in-Some c =
    taken c.args.row.now c.args.index.now (c.get_mut.follows.lender (Some c.args.row.now.byte)) ((c.get_mut.follows.holds (Some c.args.row.now.byte)).3 (search rules))

use Rattle.std.proofs.Common.{take}
use Rattle.flat_world.specs.inside.ByteIndex.{FindsBytes}
use Rattle.flat_world.proofs.byte_index.find_bytes.Given as goal

abbrev pub invariant-loop-row : goal.invariant-loop-row
invariant-loop-row l = FindsBytes (take l.row-index l.bytes) l.initial.index l.index

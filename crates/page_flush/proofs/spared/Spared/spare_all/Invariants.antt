-- The first of the numbers are spared too.
use Rattle.std.proofs.Common.{take}
use Rattle.page_flush.specs.inside.Fresh.{HasAlso}
use Rattle.page_flush.proofs.spared.Spared.spare_all.Given as goal

abbrev pub invariant-loop-number : goal.invariant-loop-number
invariant-loop-number l = HasAlso (take l.number-index l.numbers) l.fn.self l.self

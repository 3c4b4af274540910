-- The first of the numbers are in use.
use Rattle.std.proofs.Common.{take}
use Rattle.page_chains.specs.Spelled.{AreInUse}
use Rattle.page_flush.proofs.spelling.are_in_use.Given as goal

abbrev pub invariant-loop-number : goal.invariant-loop-number
invariant-loop-number l = AreInUse (take l.number-index l.numbers)

-- So many were chosen.
use Rattle.page_flush.specs.inside.Fresh.{AreChosen}
use Rattle.page_flush.proofs.choosing.choose.Given as goal

abbrev pub invariant-loop : goal.invariant-loop
invariant-loop l = AreChosen l.spared l.fn.next l.next l.counter l.fn.numbers.items l.numbers.items

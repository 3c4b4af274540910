use Rattle.enfilade_core.specs.NewNumbers.{AreAtRanks}
use Rattle.enfilade_sweep.proofs.copying.copied.Given as goal

abbrev pub invariant-loop-number : goal.invariant-loop-number
invariant-loop-number g l = AreAtRanks l.marks l.old l.new l.number

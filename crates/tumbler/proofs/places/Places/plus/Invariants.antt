use Rattle.tumbler.proofs.PaddedSteps.{Copied}
use Rattle.tumbler.proofs.places.Places.plus.Given as goal

abbrev pub invariant-loop-k : goal.invariant-loop-k
invariant-loop-k l = Copied l.self-inside.cells l.d-inside.cells l.cells l.k

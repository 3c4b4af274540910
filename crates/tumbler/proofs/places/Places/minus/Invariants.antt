use Rattle.tumbler.proofs.PaddedSteps.{LeadsSoFar}
use Rattle.tumbler.proofs.places.Places.minus.Given as goal

abbrev pub invariant-loop-k : goal.invariant-loop-k
invariant-loop-k l = LeadsSoFar l.self-inside.len l.self-inside.cells l.a-inside.len l.a-inside.cells l.cells l.k

use Rattle.poom.specs.Laid.{IsRoot}
use Rattle.poom_tests.proofs.compared.random.round.Given as goal

abbrev pub invariant-loop : goal.invariant-loop
invariant-loop g l = record { left : IsRoot l.poom l.pair.left.root.0; right : IsRoot l.poom l.pair.right.root.0 }

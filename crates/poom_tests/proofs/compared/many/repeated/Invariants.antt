use Rattle.poom.specs.Laid.{IsRoot}
use Rattle.poom_tests.proofs.compared.many.repeated.Given as goal

abbrev pub invariant-loop : goal.invariant-loop
invariant-loop g l = record { one : IsRoot l.poom l.two.one.0; other : IsRoot l.poom l.two.other.0 }

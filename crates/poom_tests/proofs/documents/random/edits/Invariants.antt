use Rattle.poom.specs.Laid.{IsRoot}
use Rattle.poom_tests.proofs.documents.random.edits.Given as goal

abbrev pub invariant-loop : goal.invariant-loop
invariant-loop g l = record {
  one : IsRoot l.poom l.three.one.root.0;
  other : IsRoot l.poom l.three.other.root.0;
  third : IsRoot l.poom l.three.third.root.0;
}

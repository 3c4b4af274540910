use Rattle.history_lock.specs.Passes.{IsPassOf}
use Rattle.store_tests.proofs.locked.hundred.Given as goal

abbrev pub invariant-loop : goal.invariant-loop
invariant-loop g l = IsPassOf l.fn.lock l.pass

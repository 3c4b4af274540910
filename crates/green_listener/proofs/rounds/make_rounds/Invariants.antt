use Rattle.history_lock.specs.Passes.{IsPassOf}
use Rattle.green_listener.proofs.rounds.make_rounds.Given as goal

abbrev pub invariant-loop : goal.invariant-loop
invariant-loop g l = IsPassOf l.fn.lock l.pass

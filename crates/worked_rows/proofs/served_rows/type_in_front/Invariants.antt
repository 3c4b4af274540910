use Rattle.history_lock.specs.Passes.{IsPassOf}
use Rattle.worked_rows.proofs.served_rows.type_in_front.Given as goal

abbrev pub invariant-loop : goal.invariant-loop
invariant-loop g l = IsPassOf l.fn.lock l.pass

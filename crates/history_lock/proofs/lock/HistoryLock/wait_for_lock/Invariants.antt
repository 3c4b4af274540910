use Rattle.std.proofs.Common.{◌≡◌, ℕ, [], replicate}
use Rattle.history_lock.specs.Passes.{finding}
use Rattle.history_lock.specs.inside.Steps.{IsSameSeat}
use Rattle.history_lock.proofs.lock.HistoryLock.wait_for_lock.Given as goal

abbrev pub invariant-loop : goal.invariant-loop
invariant-loop g l = (n : ℕ) × IsSameSeat l.fn.seat l.seat × (l.seat.me ≡ (finding l.fn.seat.me.0 (replicate n 1), []))

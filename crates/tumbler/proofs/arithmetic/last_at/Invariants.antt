use Rattle.std.proofs.Common.{◌≡◌, replicate}
use Rattle.tumbler.proofs.arithmetic.last_at.Given as goal

abbrev pub invariant-loop : goal.invariant-loop
invariant-loop l = (l.held ≡ replicate l.counter 0)

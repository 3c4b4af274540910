use Rattle.std.proofs.Common.{ℕ, ◌<◌, get_or}
use Rattle.tumbler.proofs.address.split_at_zero.Given as goal

abbrev pub invariant-loop-k : goal.invariant-loop-k
invariant-loop-k l = (j : ℕ) → j < l.k → 0 < get_or l.places j 0

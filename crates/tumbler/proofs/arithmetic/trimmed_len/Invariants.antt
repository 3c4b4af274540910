use Rattle.std.proofs.Common.{◌≡◌, ◌≤◌, take}
use Rattle.tumbler.specs.Places.{trimmed}
use Rattle.tumbler.proofs.arithmetic.trimmed_len.Given as goal

abbrev pub invariant-loop-k : goal.invariant-loop-k
invariant-loop-k l = (l.n ≤ l.k) × (take l.n l.places ≡ trimmed (take l.k l.places))

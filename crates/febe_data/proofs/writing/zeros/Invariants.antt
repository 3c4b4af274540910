use Rattle.std.proofs.Common.{◌≡◌, ◌+◌, drop}
use Rattle.febe_data.specs.Spelling.{zeros_of}
use Rattle.febe_data.proofs.writing.zeros.Given as goal

abbrev pub invariant-loop-k : goal.invariant-loop-k
invariant-loop-k l = zeros_of l.places ≡ l.k + zeros_of (drop l.k l.places)

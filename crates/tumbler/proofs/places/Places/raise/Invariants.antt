use Rattle.std.proofs.Common.{◌≡◌, take}
use Rattle.tumbler.specs.Reach.{greater}
use Rattle.tumbler.proofs.places.Places.raise.Given as goal

abbrev pub invariant-loop-k : goal.invariant-loop-k
invariant-loop-k l = l.self ≡ greater l.initial.self (take l.k l.other-inside.cells)

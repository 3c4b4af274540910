use Rattle.std.proofs.Common.{◌≡◌, ◌++◌, take}
use Rattle.tumbler.proofs.places.Places.extend.Given as goal

abbrev pub invariant-loop-place : goal.invariant-loop-place
invariant-loop-place l = l.self ≡ l.initial.self ++ take l.place-index l.places

use Rattle.std.proofs.Common.{◌≡◌, drop, take}
use Rattle.tumbler.specs.Places.{comes_before}
use Rattle.tumbler.proofs.places.Places.is_before.Given as goal

abbrev pub invariant-loop-k : goal.invariant-loop-k
invariant-loop-k l = comes_before (drop l.k (take l.self-inside.len l.self-inside.cells)) (drop l.k (take l.other-inside.len l.other-inside.cells))
    ≡ comes_before (take l.self-inside.len l.self-inside.cells) (take l.other-inside.len l.other-inside.cells)

use Rattle.std.proofs.Common.{◌≡◌, map, take}
use Rattle.poom_compare.specs.Placed.{segment_of}
use Rattle.poom_compare.proofs.stretch.segments.Given as goal

abbrev pub invariant-loop-k : goal.invariant-loop-k
invariant-loop-k l = l.made.items ≡ map (segment_of l.stretches) (take l.k l.stretches)

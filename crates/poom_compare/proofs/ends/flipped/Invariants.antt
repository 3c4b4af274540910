use Rattle.std.proofs.Common.{◌≡◌, map, take}
use Rattle.poom_compare.specs.Segments.{flipped_segment}
use Rattle.poom_compare.proofs.ends.flipped.Given as goal

abbrev pub invariant-loop-segment : goal.invariant-loop-segment
invariant-loop-segment l = l.made.items ≡ map flipped_segment (take l.segment-index l.segments)

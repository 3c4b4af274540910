use Rattle.std.proofs.Common.{◌≡◌, map, take}
use Rattle.poom_compare.specs.Segments.{flipped_pair}
use Rattle.poom_compare.proofs.ends.flipped_pairs.Given as goal

abbrev pub invariant-loop-pair : goal.invariant-loop-pair
invariant-loop-pair l = l.made.items ≡ map flipped_pair (take l.pair-index l.pairs)

use Rattle.std.proofs.Common.{take}
use Rattle.flat_rows.specs.PairIndex.{IsPairSet}
use Rattle.flat_rows.proofs.relation.pair_set.Given as goal

abbrev pub invariant-loop-pair : goal.invariant-loop-pair
invariant-loop-pair l = IsPairSet (take l.pair-index l.pairs) l.members

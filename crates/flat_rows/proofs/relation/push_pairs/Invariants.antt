use Rattle.std.proofs.Common.{◌≡◌, ◌++◌, take}
use Rattle.flat_rows.specs.PairIndex.{pairs_with}
use Rattle.flat_rows.proofs.relation.push_pairs.Given as goal

abbrev pub invariant-loop-right : goal.invariant-loop-right
invariant-loop-right l = l.pairs.items ≡ l.initial.pairs.items ++ pairs_with l.left (take l.right-index l.rights)

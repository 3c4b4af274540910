use Rattle.std.proofs.Common.{◌≡◌, map, take}
use Rattle.links.specs.inside.Pairs.{pair_of, pairs_of}
use Rattle.links.proofs.spans.pairs_of.Given as goal

abbrev pub invariant-loop-row : goal.invariant-loop-row
invariant-loop-row l = l.pairs.keys ≡ pairs_of (map pair_of (take l.row-index l.rows))

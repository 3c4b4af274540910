use Rattle.std.proofs.Common.{◌≡◌, ◌++◌, map}
use Rattle.links.specs.inside.Pairs.{span_of_pair}
use Rattle.links.proofs.spans.listed.Given as goal

abbrev pub invariant-loop-pair : goal.invariant-loop-pair
invariant-loop-pair l = l.made.items ++ map span_of_pair l.pair-iterator ≡ map span_of_pair l.pairs.keys

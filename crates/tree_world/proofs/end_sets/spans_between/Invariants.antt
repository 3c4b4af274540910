use Rattle.std.proofs.Common.{◌≡◌, map, take}
use Rattle.tree_world.specs.inside.InEnds.{span_between}
use Rattle.tree_world.proofs.end_sets.spans_between.Given as goal

abbrev pub invariant-loop-interval : goal.invariant-loop-interval
invariant-loop-interval l = l.made.items ≡ map span_between (take l.interval-index l.intervals)

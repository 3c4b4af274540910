use Rattle.std.proofs.Common.{◌≡◌, map, take}
use Rattle.links.specs.LinkLists.{run_span}
use Rattle.tree_world.proofs.run_spans.run_spans.Given as goal

abbrev pub invariant-loop-run : goal.invariant-loop-run
invariant-loop-run l = l.made.items ≡ map run_span (take l.run-index l.runs)

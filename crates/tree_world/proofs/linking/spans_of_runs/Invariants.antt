use Rattle.std.proofs.Common.{◌≡◌, All, map, take}
use Rattle.tumbler.specs.Span.{SpanFits}
use Rattle.links.specs.LinkLists.{IsRun, run_span}
use Rattle.tree_world.proofs.linking.spans_of_runs.Given as goal

abbrev pub invariant-loop-run : goal.invariant-loop-run
invariant-loop-run l = (l.made.items ≡ map run_span (take l.run-index l.runs)) × All SpanFits l.made.items × All IsRun (take l.run-index l.runs)

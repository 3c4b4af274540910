use Rattle.std.specs.List.{All}
use Rattle.tumbler.specs.Span.{SpanFits}
use Rattle.links_tests.proofs.covered.random.spans.Given as goal

abbrev pub invariant-loop-one : goal.invariant-loop-one
invariant-loop-one g l = All SpanFits l.made.items

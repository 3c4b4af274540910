use Rattle.std.specs.List.{All}
use Rattle.tumbler.specs.Span.{SpanFits}
use Rattle.links_tests.proofs.linked.random.spans.Given as goal

abbrev pub invariant-loop-part : goal.invariant-loop-part
invariant-loop-part g l = All SpanFits l.made.items

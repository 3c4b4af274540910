use Rattle.std.specs.List.{All}
use Rattle.tumbler.specs.Span.{SpanFits}
use Rattle.links_tests.proofs.linked.spans.Given as goal

abbrev pub invariant-loop-bytes : goal.invariant-loop-bytes
invariant-loop-bytes g l = All SpanFits l.made.items

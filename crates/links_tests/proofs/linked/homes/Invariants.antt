use Rattle.std.specs.List.{All}
use Rattle.tumbler.specs.Span.{SpanFits}
use Rattle.links_tests.proofs.linked.homes.Given as goal

abbrev pub invariant-loop-number : goal.invariant-loop-number
invariant-loop-number g l = All SpanFits l.made.items

use Rattle.std.proofs.Common.{All, take}
use Rattle.tumbler.specs.Span.{SpanFits}
use Rattle.tree_world.proofs.linking.all_fit.Given as goal

abbrev pub invariant-loop-span : goal.invariant-loop-span
invariant-loop-span l = All SpanFits (take l.span-index l.spans)

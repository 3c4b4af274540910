use Rattle.std.proofs.Common.{◌≡◌, take, map}
use Rattle.tumbler.specs.declared.span.Span.{Span}
use Rattle.tumbler.specs.Span.{end_of}
use Rattle.flat_world.proofs.ends.extents_of.Given as goal

abbrev pub invariant-loop-span : goal.invariant-loop-span
invariant-loop-span l = l.extents.items ≡ map (λ (span : Span). record { start = span.start; end = end_of span }) (take l.span-index l.spans)

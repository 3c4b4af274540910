use Rattle.std.proofs.Common.{◌≡◌, drop}
use Rattle.std.specs.List.{list_any}
use Rattle.tumbler.specs.declared.span.Span.{Span}
use Rattle.world_rules.specs.Picking.{picks}
use Rattle.flat_rows.proofs.relation.is_in_some.Given as goal

abbrev pub invariant-loop-span : goal.invariant-loop-span
invariant-loop-span l = list_any (λ (span : Span). picks span l.row) (drop l.span-index l.spans) ≡ list_any (λ (span : Span). picks span l.row) l.spans

use Rattle.std.proofs.Common.{◌≡◌, take, min}
use Rattle.std.specs.List.{sum_by}
use Rattle.world_rules.specs.Refusals.{span_bytes, span_items}
use Rattle.flat_world.proofs.flat.FlatWorld.spec_size.Given as goal

abbrev pub invariant-loop-span : goal.invariant-loop-span
invariant-loop-span l =
    (l.bytes ≡ min (sum_by (span_bytes l.self.world l.spec.document) (take l.span-index l.spec.spans.items)) 18446744073709551615)
    × (l.items ≡ min (sum_by (span_items l.self.world l.spec.document) (take l.span-index l.spec.spans.items)) 18446744073709551615)

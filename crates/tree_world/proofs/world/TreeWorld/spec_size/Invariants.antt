use Rattle.std.proofs.Common.{◌≡◌, ◌-◌, ◌^◌, min, take}
use Rattle.std.specs.List.{sum_by}
use Rattle.tree_world.specs.inside.Seen.{text_count, item_count}
use Rattle.tree_world.proofs.world.TreeWorld.spec_size.Given as goal

abbrev pub invariant-loop-span : goal.invariant-loop-span
invariant-loop-span l =
    (l.bytes ≡ min (sum_by (text_count l.self l.spec.document) (take l.span-index l.spec.spans.items)) (2 ^ 64 - 1))
    × (l.items ≡ min (sum_by (item_count l.self l.spec.document) (take l.span-index l.spec.spans.items)) (2 ^ 64 - 1))

use Rattle.std.proofs.Common.{◌≡◌, take}
use Rattle.std.specs.List.{sum_by}
use Rattle.tree_world.specs.inside.Seen.{text_count}
use Rattle.tree_world.proofs.world.TreeWorld.count_by_spec.Given as goal

abbrev pub invariant-loop-span : goal.invariant-loop-span
invariant-loop-span l = l.picked ≡ sum_by (text_count l.self l.spec.document) (take l.span-index l.spec.spans.items)

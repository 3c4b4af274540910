use Rattle.std.proofs.Common.{◌≡◌, ◌++◌, take, map, All}
use Rattle.std.specs.List.{flat_map}
use Rattle.febe_data.specs.Plain.{plain_item}
use Rattle.world_rules.specs.Answers.{NamesTumbler}
use Rattle.tree_world.specs.inside.Seen.{items_picked}
use Rattle.tree_world.proofs.world.TreeWorld.push_spec.Given as goal

abbrev pub invariant-loop-span : goal.invariant-loop-span
invariant-loop-span l =
    (map plain_item l.items.items ≡ map plain_item l.initial.items.items ++ flat_map (items_picked l.self l.spec.document) (take l.span-index l.spec.spans.items))
    × (All NamesTumbler (map plain_item l.initial.items.items) → All NamesTumbler (map plain_item l.items.items))

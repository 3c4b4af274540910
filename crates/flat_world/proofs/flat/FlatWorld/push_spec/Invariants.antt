use Rattle.std.proofs.Common.{◌≡◌, All, ◌++◌, take, map}
use Rattle.std.specs.List.{flat_map}
use Rattle.febe_data.specs.Plain.{plain_item}
use Rattle.world_rules.specs.Answers.{NamesTumbler, items_of_span}
use Rattle.flat_world.proofs.flat.FlatWorld.push_spec.Given as goal

abbrev pub invariant-loop-span : goal.invariant-loop-span
invariant-loop-span l =
    (map plain_item l.items.items ≡ map plain_item l.initial.items.items ++ flat_map (items_of_span l.self.world l.spec.document) (take l.span-index l.spec.spans.items))
    × (All NamesTumbler (map plain_item l.initial.items.items) → All NamesTumbler (map plain_item l.items.items))

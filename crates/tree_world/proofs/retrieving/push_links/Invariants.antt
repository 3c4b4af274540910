use Rattle.std.proofs.Common.{◌≡◌, ◌++◌, take, map, All}
use Rattle.febe_data.specs.Plain.{plain_item, link}
use Rattle.world_rules.specs.Answers.{NamesTumbler}
use Rattle.tree_world.proofs.retrieving.push_links.Given as goal

abbrev pub invariant-loop-id : goal.invariant-loop-id
invariant-loop-id l =
    (map plain_item l.items.items ≡ map plain_item l.initial.items.items ++ map link (take l.id-index l.ids))
    × (All NamesTumbler (map plain_item l.initial.items.items) → All NamesTumbler (map plain_item l.items.items))

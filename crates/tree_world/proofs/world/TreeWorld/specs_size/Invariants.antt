use Rattle.std.proofs.Common.{◌≡◌, ◌-◌, ◌^◌, min, take, map}
use Rattle.febe_data.specs.Plain.{plain_spec}
use Rattle.world_rules.specs.Refusals.{total_of}
use Rattle.tree_world.specs.inside.Seen.{text_count, item_count}
use Rattle.tree_world.proofs.world.TreeWorld.specs_size.Given as goal

abbrev pub invariant-loop-spec : goal.invariant-loop-spec
invariant-loop-spec l =
    (l.bytes ≡ min (total_of (text_count l.self) (map plain_spec (take l.spec-index l.specs))) (2 ^ 64 - 1))
    × (l.items ≡ min (total_of (item_count l.self) (map plain_spec (take l.spec-index l.specs))) (2 ^ 64 - 1))

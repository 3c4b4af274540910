use Rattle.std.proofs.Common.{◌≡◌, All, ◌++◌, take, map}
use Rattle.febe_data.specs.Plain.{plain_item, plain_spec}
use Rattle.world_rules.specs.Answers.{NamesTumbler, items_of}
use Rattle.flat_world.proofs.flat.FlatWorld.push_specs.Given as goal

abbrev pub invariant-loop-spec : goal.invariant-loop-spec
invariant-loop-spec l =
    (map plain_item l.items.items ≡ map plain_item l.initial.items.items ++ items_of l.self.world (map plain_spec (take l.spec-index l.specs)))
    × (All NamesTumbler (map plain_item l.initial.items.items) → All NamesTumbler (map plain_item l.items.items))

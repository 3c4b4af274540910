use Rattle.std.proofs.Common.{◌≡◌, take, map, All}
use Rattle.febe_data.specs.Plain.{plain_item, plain_spec}
use Rattle.world_rules.specs.Answers.{NamesTumbler}
use Rattle.tree_world.specs.inside.Seen.{items_by_specs}
use Rattle.tree_world.proofs.world.TreeWorld.items_by_specs.Given as goal

abbrev pub invariant-loop-spec : goal.invariant-loop-spec
invariant-loop-spec l = (map plain_item l.items.items ≡ items_by_specs l.self (map plain_spec (take l.spec-index l.specs))) × All NamesTumbler (map plain_item l.items.items)

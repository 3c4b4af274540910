use Rattle.std.proofs.Common.{◌≡◌, take, map}
use Rattle.febe_data.specs.Plain.{plain_spec}
use Rattle.world_rules.specs.Refusals.{total_of}
use Rattle.tree_world.specs.inside.Seen.{text_count}
use Rattle.tree_world.proofs.world.TreeWorld.count_by_specs.Given as goal

abbrev pub invariant-loop-spec : goal.invariant-loop-spec
invariant-loop-spec l = l.picked ≡ total_of (text_count l.self) (map plain_spec (take l.spec-index l.specs))

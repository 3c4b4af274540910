use Rattle.std.proofs.Common.{◌≡◌, take, map}
use Rattle.febe_data.specs.Plain.{plain_spec}
use Rattle.tree_world.specs.inside.Seen.{runs_by_specs}
use Rattle.tree_world.proofs.world.TreeWorld.runs_by_specs_up_to.Given as goal

abbrev pub invariant-loop-spec : goal.invariant-loop-spec
invariant-loop-spec l = l.made.items ≡ runs_by_specs l.self (map plain_spec (take l.spec-index l.specs))

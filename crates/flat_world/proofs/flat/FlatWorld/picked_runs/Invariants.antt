use Rattle.std.proofs.Common.{◌≡◌, take, map}
use Rattle.febe_data.specs.Plain.{plain_spec}
use Rattle.world_rules.specs.Picking.{runs_of}
use Rattle.flat_world.proofs.flat.FlatWorld.picked_runs.Given as goal

abbrev pub invariant-loop-spec : goal.invariant-loop-spec
invariant-loop-spec l = l.made.items ≡ runs_of l.self.world (map plain_spec (take l.spec-index l.specs))

use Rattle.std.proofs.Common.{◌≡◌, take, map, All}
use Rattle.febe_data.specs.Plain.{plain_spec}
use Rattle.poom.specs.Edited.{IsContentRun, run_addresses}
use Rattle.tree_world.specs.inside.Seen.{addresses_by_specs, runs_by_specs}
use Rattle.tree_world.proofs.world.TreeWorld.runs_by_specs.Given as goal

abbrev pub invariant-loop-spec : goal.invariant-loop-spec
invariant-loop-spec l =
    (l.made.items ≡ runs_by_specs l.self (map plain_spec (take l.spec-index l.specs)))
    × (run_addresses l.made.items ≡ addresses_by_specs l.self (map plain_spec (take l.spec-index l.specs)))
    × All IsContentRun l.made.items

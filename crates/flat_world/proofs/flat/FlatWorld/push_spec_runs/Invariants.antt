use Rattle.std.proofs.Common.{◌≡◌, ◌++◌, take}
use Rattle.std.specs.List.{flat_map}
use Rattle.world_rules.specs.Picking.{runs_of_span}
use Rattle.flat_world.proofs.flat.FlatWorld.push_spec_runs.Given as goal

abbrev pub invariant-loop-span : goal.invariant-loop-span
invariant-loop-span l = l.made.items ≡ l.initial.made.items ++ flat_map (runs_of_span l.self.world l.spec.document) (take l.span-index l.spec.spans.items)

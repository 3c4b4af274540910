use Rattle.std.proofs.Common.{◌≡◌, ◌++◌, take}
use Rattle.std.specs.List.{flat_map}
use Rattle.tree_world.specs.inside.Seen.{runs_picked}
use Rattle.tree_world.proofs.world.TreeWorld.push_spec_runs_up_to.Given as goal

abbrev pub invariant-loop-span : goal.invariant-loop-span
invariant-loop-span l = l.made.items ≡ l.initial.made.items ++ flat_map (runs_picked l.self l.spec.document) (take l.span-index l.spec.spans.items)

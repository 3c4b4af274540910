use Rattle.std.proofs.Common.{◌≡◌, ◌++◌, take, All}
use Rattle.std.specs.List.{flat_map}
use Rattle.poom.specs.Edited.{IsContentRun, run_addresses}
use Rattle.tree_world.specs.inside.Seen.{text_picked, runs_picked}
use Rattle.tree_world.proofs.world.TreeWorld.push_spec_runs.Given as goal

abbrev pub invariant-loop-span : goal.invariant-loop-span
invariant-loop-span l =
    (l.made.items ≡ l.initial.made.items ++ flat_map (runs_picked l.self l.spec.document) (take l.span-index l.spec.spans.items))
    × (run_addresses l.made.items ≡ run_addresses l.initial.made.items ++ flat_map (text_picked l.self l.spec.document) (take l.span-index l.spec.spans.items))
    × (All IsContentRun l.initial.made.items → All IsContentRun l.made.items)

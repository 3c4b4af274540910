use Rattle.std.proofs.Common.{◌≡◌, All, map, take}
use Rattle.febe_data.specs.Plain.{plain_spec}
use Rattle.world_rules.specs.Ends.{NamesSpans}
use Rattle.world_rules.specs.FlatView.{FlatView}
use Rattle.tree_world.specs.Standing.{Stands}
use Rattle.tree_world.specs.inside.Reads.{now_for}
use Rattle.tree_world.proofs.world.TreeWorld.runs_now.Given as goal

abbrev pub invariant-loop-run : goal.invariant-loop-run
invariant-loop-run l = ((view : FlatView) → Stands l.self view → map plain_spec l.made.items ≡ now_for view.world l.self l.account (take l.run-index l.runs)) × All NamesSpans (map plain_spec l.made.items)

use Rattle.std.proofs.Common.{◌≡◌, All, map, take}
use Rattle.febe_data.specs.Plain.{plain_spec}
use Rattle.febe_data.specs.declared.spec.Spec.{Spec}
use Rattle.world_rules.specs.FlatView.{FlatView}
use Rattle.world_rules.specs.Ends.{end_set_of, NamesSpans}
use Rattle.tree_world.specs.Standing.{Stands}
use Rattle.tree_world.proofs.world.TreeWorld.specs_in_end.Given as goal

abbrev pub invariant-loop-spec : goal.invariant-loop-spec
invariant-loop-spec l =
    ((view : FlatView) → Stands l.self view → map plain_spec l.made.items ≡ map (λ (spec : Spec). end_set_of view.world l.session l.end (plain_spec spec)) (take l.spec-index l.specs)) × All NamesSpans (map plain_spec l.made.items)

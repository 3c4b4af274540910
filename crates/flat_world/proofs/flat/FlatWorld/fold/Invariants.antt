use Rattle.std.proofs.Common.{◌≡◌, drop}
use Rattle.std.specs.List.{fold}
use Rattle.febe_data.specs.Plain.{plain_history}
use Rattle.world_rules.specs.FlatView.{after_entry, view_of}
use Rattle.world_rules.specs.Fitting.{AreFitting}
use Rattle.flat_world.proofs.flat.FlatWorld.fold.Given as goal

abbrev pub invariant-loop-entry : goal.invariant-loop-entry
invariant-loop-entry l = record {
  folded : fold after_entry l.world (plain_history (drop l.entry-index l.history.items)) ≡ view_of (plain_history l.history.items);
  fitting : AreFitting (plain_history (drop l.entry-index l.history.items)) → AreFitting (plain_history l.history.items);
}

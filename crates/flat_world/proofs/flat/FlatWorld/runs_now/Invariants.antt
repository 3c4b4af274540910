use Rattle.std.proofs.Common.{◌≡◌, All, take, map}
use Rattle.febe_data.specs.Plain.{plain_spec}
use Rattle.world_rules.specs.Ends.{run_now, NamesSpans}
use Rattle.flat_world.proofs.flat.FlatWorld.runs_now.Given as goal

abbrev pub invariant-loop-run : goal.invariant-loop-run
invariant-loop-run l = record {
  value : map plain_spec l.specs.items ≡ map (run_now l.self.world) (take l.run-index l.runs);
  valid : All NamesSpans (map plain_spec l.specs.items);
}

use Rattle.std.proofs.Common.{◌≡◌, All, take, map}
use Rattle.febe_data.specs.Plain.{plain_spec}
use Rattle.world_rules.specs.Ends.{NamesSpans}
use Rattle.flat_rows.specs.EndIndex.{indexed_of}
use Rattle.flat_world.proofs.flat.FlatWorld.indexed_specs.Given as goal

abbrev pub invariant-loop-spec : goal.invariant-loop-spec
invariant-loop-spec l = record {
  value : map plain_spec l.made.items ≡ map (indexed_of l.self.world l.index) (map plain_spec (take l.spec-index l.specs));
  valid : All NamesSpans (map plain_spec l.made.items);
}

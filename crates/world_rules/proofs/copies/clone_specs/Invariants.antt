use Rattle.std.proofs.Common.{◌≡◌, ◌+◌, ◌≤◌, length, map, take}
use Rattle.febe_data.specs.Plain.{plain_spec}
use Rattle.world_rules.proofs.copies.clone_specs.Given as goal

abbrev pub invariant-loop-spec : goal.invariant-loop-spec
invariant-loop-spec l = record {
  made : map plain_spec l.copy.items ≡ map plain_spec (take l.spec-index l.specs);
  room : length l.specs ≤ l.copy.spare + l.spec-index;
}

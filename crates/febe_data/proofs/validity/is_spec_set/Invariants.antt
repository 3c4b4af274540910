use Rattle.std.proofs.Common.{◌≡◌, ◌*◌, ◌≤◌, All, map, take}
use Rattle.febe_data.specs.Plain.{plain_spec}
use Rattle.febe_data.specs.Validity.{IsSpec, spans_in_all}
use Rattle.febe_data.proofs.validity.is_spec_set.Given as goal

abbrev pub invariant-loop-spec : goal.invariant-loop-spec
invariant-loop-spec l = record {
  each : All IsSpec (map plain_spec (take l.spec-index l.specs));
  spans_are : l.spans ≡ spans_in_all (map plain_spec (take l.spec-index l.specs));
  bound : l.spans ≤ 65536 * l.spec-index;
}

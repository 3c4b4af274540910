use Rattle.std.proofs.Common.{◌≡◌, ◌*◌, ◌≤◌, length, take, map}
use Rattle.std.specs.List.{flat_map}
use Rattle.febe_data.specs.Plain.{plain_spec}
use Rattle.entry_codec.specs.Format.{spec_bytes}
use Rattle.entry_codec.proofs.counting.each_spec_size.Given as goal

abbrev pub invariant-loop-spec : goal.invariant-loop-spec
invariant-loop-spec l = record {
  so_far : l.size ≡ length (flat_map spec_bytes (map plain_spec (take l.spec-index l.specs)));
  few : l.size ≤ 12714085 * l.spec-index;
}

use Rattle.std.proofs.Common.{◌≡◌, ◌++◌, take, map}
use Rattle.std.specs.List.{flat_map}
use Rattle.febe_data.specs.Plain.{plain_spec}
use Rattle.entry_codec.specs.Format.{spec_bytes}
use Rattle.entry_codec.proofs.writing.append_each_spec.Given as goal

abbrev pub invariant-loop-spec : goal.invariant-loop-spec
invariant-loop-spec l = l.out.items ≡ l.initial.out.items ++ flat_map spec_bytes (map plain_spec (take l.spec-index l.specs))

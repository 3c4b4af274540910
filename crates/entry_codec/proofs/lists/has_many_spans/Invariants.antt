use Rattle.std.proofs.Common.{◌≡◌, nat_lt, drop}
use Rattle.febe_data.specs.Plain.{plain_specs}
use Rattle.febe_data.specs.Validity.{spans_in_all}
use Rattle.entry_codec.proofs.lists.has_many_spans.Given as goal

abbrev pub invariant-loop-spec : goal.invariant-loop-spec
invariant-loop-spec l = nat_lt l.room (spans_in_all (plain_specs (drop l.spec-index l.specs))) ≡ nat_lt 65536 (spans_in_all (plain_specs l.specs))

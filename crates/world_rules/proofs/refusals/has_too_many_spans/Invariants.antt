use Rattle.std.proofs.Common.{◌≡◌, ◌^◌, ◌-◌, take, map, min}
use Rattle.febe_data.specs.Plain.{plain_spec}
use Rattle.febe_data.specs.Validity.{spans_in_all}
use Rattle.world_rules.proofs.refusals.has_too_many_spans.Given as goal

abbrev pub invariant-loop-spec : goal.invariant-loop-spec
invariant-loop-spec l = l.total ≡ min (spans_in_all (map plain_spec (take l.spec-index l.specs))) (2 ^ 64 - 1)

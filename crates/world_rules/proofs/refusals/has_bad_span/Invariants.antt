use Rattle.std.proofs.Common.{◌≡◌, drop, map}
use Rattle.febe_data.specs.Plain.{plain_spec}
use Rattle.world_rules.specs.Refusals.{has_bad_span}
use Rattle.world_rules.proofs.refusals.has_bad_span.Given as goal

abbrev pub invariant-loop-spec : goal.invariant-loop-spec
invariant-loop-spec l = has_bad_span (map plain_spec (drop l.spec-index l.specs)) ≡ has_bad_span (map plain_spec l.specs)

use Rattle.std.proofs.Common.{◌≡◌, length}
use Rattle.febe_fields.specs.Reading.{digits_after}
use Rattle.febe_fields.proofs.fields.digits_after.Given as goal

abbrev pub invariant-loop-rest : goal.invariant-loop-rest
invariant-loop-rest l = digits_after l.number l.rest ≡ digits_after l.first l.bytes

abbrev pub decreases-loop-rest : goal.decreases-loop-rest
decreases-loop-rest l = length l.rest

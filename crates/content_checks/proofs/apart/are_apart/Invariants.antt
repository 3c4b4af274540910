-- The rest of the rows stands apart exactly where the rows do.
use Rattle.std.proofs.Common.{map, length}
use Rattle.enfilade_core.specs.Plain.{plain_row}
use Rattle.enfilade_core.specs.Planes.{plain_text}
use Rattle.content_checks.proofs.ApartRows.{GoesOn}
use Rattle.content_checks.proofs.apart.are_apart.Given as goal

abbrev pub invariant-loop-row : goal.invariant-loop-row
invariant-loop-row l = GoesOn (map (plain_row plain_text) l.rows) (map (plain_row plain_text) l.rest)

abbrev pub decreases-loop-row : goal.decreases-loop-row
decreases-loop-row l = length l.rest

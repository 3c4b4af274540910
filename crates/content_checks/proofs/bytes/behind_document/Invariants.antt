-- The rest of the rows has what the rows have behind so many bytes of the document.
use Rattle.std.proofs.Common.{◌-◌, map}
use Rattle.enfilade_core.specs.Plain.{plain_row}
use Rattle.enfilade_core.specs.Planes.{plain_text}
use Rattle.content_checks.proofs.ByteRows.{GoesOn}
use Rattle.content_checks.proofs.bytes.behind_document.Given as goal

abbrev pub invariant-loop-done : goal.invariant-loop-done
invariant-loop-done l = GoesOn l.document l.done (map (plain_row plain_text) l.rows) (map (plain_row plain_text) l.rest)

abbrev pub decreases-loop-done : goal.decreases-loop-done
decreases-loop-done l = l.document.content - l.done

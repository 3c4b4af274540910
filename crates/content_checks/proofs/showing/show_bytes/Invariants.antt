-- The rows that were gone through show nothing that is not listed.
use Rattle.content_checks.specs.Listed.{listed_bytes}
use Rattle.content_checks.proofs.BackedRows.{BackedBelow}
use Rattle.content_checks.proofs.showing.show_bytes.Given as goal

abbrev pub invariant-loop-row : goal.invariant-loop-row
invariant-loop-row l = BackedBelow 1 (listed_bytes l.documents) l.rows l.row-index

-- The rows that were gone through show nothing that is not listed.
use Rattle.std.proofs.Common.{map}
use Rattle.page_tables.specs.Plain.{plain_link}
use Rattle.content_checks.specs.Listed.{listed_ids}
use Rattle.content_checks.proofs.BackedRows.{BackedBelow}
use Rattle.content_checks.proofs.showing.show_links.Given as goal

abbrev pub invariant-loop-row : goal.invariant-loop-row
invariant-loop-row l = BackedBelow 2 (listed_ids (map plain_link l.listed)) l.rows l.row-index

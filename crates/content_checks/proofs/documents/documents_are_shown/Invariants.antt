-- All roots that were seen are right, and so are those of the documents that were gone through.
use Rattle.page_tables.specs.Plain.{plain_tables}
use Rattle.content_checks.specs.inside.Steps.{AreRight}
use Rattle.content_checks.proofs.SeenRoots.{ShownBelow}
use Rattle.content_checks.proofs.documents.documents_are_shown.Given as goal

abbrev pub invariant-loop-row : goal.invariant-loop-row
invariant-loop-row l = record {
  seen : AreRight l.poom (plain_tables l.tables) l.seen;
  shown : ShownBelow l.poom (plain_tables l.tables) l.documents l.row-index;
}

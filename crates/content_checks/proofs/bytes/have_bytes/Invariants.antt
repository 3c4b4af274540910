-- The rest of the rows has the bytes of the documents that are left exactly where the rows have those of all.
use Rattle.std.proofs.Common.{◌↔◌, map, drop}
use Rattle.enfilade_core.specs.Plain.{plain_row}
use Rattle.enfilade_core.specs.Planes.{plain_text}
use Rattle.content_checks.specs.Listed.{listed_bytes}
use Rattle.content_checks.specs.inside.Steps.{HaveBytes}
use Rattle.content_checks.proofs.bytes.have_bytes.Given as goal

abbrev pub invariant-loop-document : goal.invariant-loop-document
invariant-loop-document l = HaveBytes (map (plain_row plain_text) l.rows) (listed_bytes l.documents) ↔ HaveBytes (map (plain_row plain_text) l.rest) (listed_bytes (drop l.document-index l.documents))

use Rattle.std.proofs.Common.{take}
use Rattle.disk_fields.proofs.Written.{AreWritten}
use Rattle.page_tables.specs.TableBytes.{document_bytes, IsDocumentRow}
use Rattle.page_tables.proofs.documents.append_each_document.Given as goal

abbrev pub invariant-loop-row : goal.invariant-loop-row
invariant-loop-row l = AreWritten IsDocumentRow document_bytes l.initial.out.items l.out.items (take l.row-index l.rows)

use Rattle.std.proofs.Common.{◌≡◌, ◌-◌}
use Rattle.febe_fields.specs.Reading.{many_at}
use Rattle.febe_fields.proofs.ManyLoop.{with_items}
use Rattle.page_tables.specs.TableReading.{document_at}
use Rattle.page_tables.proofs.documents.many_documents_at.Given as goal

abbrev pub invariant-loop : goal.invariant-loop
invariant-loop l = with_items l.rows.items (many_at document_at (l.count - l.counter) l.rest) ≡ many_at document_at l.count l.bytes

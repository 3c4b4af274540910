use Rattle.disk_fields.proofs.Written.{none_written, more_written}
use Rattle.page_tables.specs.TableBytes.{document_bytes, IsDocumentRow}
use Rattle.page_tables.proofs.documents.append_each_document.Goals as goal

pub loop-row-init : goal.loop-row-init
loop-row-init c = none_written IsDocumentRow document_bytes c.args.out.now.items

pub loop-row-preserved : goal.loop-row-preserved
loop-row-preserved c =
    more_written IsDocumentRow document_bytes _ _ _ c.args.rows.now c.loop-row.row-index c.row-item.result c.loop-row-test.true c.row-item.is c.loop-row.invariant c.in_ok-append_document.ensures.spelled c.in_ok-append_document.ensures.right

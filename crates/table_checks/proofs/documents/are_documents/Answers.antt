use Rattle.tumbler.specs.Address.{IsDocument}
use Rattle.page_tables.specs.declared.tables.TableDocument.{TableDocument}
use Rattle.table_checks.proofs.Tested.{yes_iff, no_iff, refuted, more, whole, fails}
use Rattle.table_checks.proofs.documents.are_documents.Goals as goal

pub returns-then-not-is_document : goal.returns-then-not-is_document
returns-then-not-is_document c =
    no_iff (fails (λ (row : TableDocument). IsDocument row.document) c.args.rows.now c.loop-row.row-index c.row-item.result c.loop-row-test.true c.row-item.is (refuted c.is_document.result c.is_document.ensures c.if-not-is_document.true))

pub loop-row-preserved : goal.loop-row-preserved
loop-row-preserved c =
    more (λ (row : TableDocument). IsDocument row.document) c.args.rows.now c.loop-row.row-index c.row-item.result c.loop-row-test.true c.row-item.is (c.is_document.ensures.0 c.if-not-is_document.false) c.loop-row.invariant

pub returns : goal.returns
returns c = yes_iff (whole (λ (row : TableDocument). IsDocument row.document) c.args.rows.now c.loop-row.row-index c.loop-row-test.false c.loop-row.invariant)

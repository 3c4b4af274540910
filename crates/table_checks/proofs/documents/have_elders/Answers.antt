use Rattle.page_tables.specs.declared.tables.TableDocument.{TableDocument}
use Rattle.table_checks.specs.Sound.{HasElder}
use Rattle.table_checks.proofs.Tested.{yes_iff, no_iff, refuted, more, whole, fails}
use Rattle.table_checks.proofs.documents.have_elders.Goals as goal

pub returns-then-not-has_elder : goal.returns-then-not-has_elder
returns-then-not-has_elder c =
    no_iff (fails (λ (row : TableDocument). HasElder c.args.rows.now row.document) c.args.rows.now c.loop-row.row-index c.row-item.result c.loop-row-test.true c.row-item.is (refuted c.has_elder.result c.has_elder.ensures c.if-not-has_elder.true))

pub loop-row-preserved : goal.loop-row-preserved
loop-row-preserved c =
    more (λ (row : TableDocument). HasElder c.args.rows.now row.document) c.args.rows.now c.loop-row.row-index c.row-item.result c.loop-row-test.true c.row-item.is (c.has_elder.ensures.0 c.if-not-has_elder.false) c.loop-row.invariant

pub returns : goal.returns
returns c = yes_iff (whole (λ (row : TableDocument). HasElder c.args.rows.now row.document) c.args.rows.now c.loop-row.row-index c.loop-row-test.false c.loop-row.invariant)

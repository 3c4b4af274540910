use Rattle.std.proofs.Common.{◌-◌, arith}
use Rattle.page_tables.specs.declared.tables.TableDocument.{TableDocument}
use Rattle.table_checks.proofs.Tested.{yes_iff, no_iff, refuted}
use Rattle.table_checks.proofs.Ordered.{none_adjacent, adjacent_more, not_ascending, ascends_whole}
use Rattle.table_checks.proofs.order.documents_ascend.Goals as goal

pub returns-then-not-is_before : goal.returns-then-not-is_before
returns-then-not-is_before c =
    no_iff (not_ascending (λ (row : TableDocument). row.document) c.args.rows.now c.loop-k.k (c.loop-k.k - 1) c.index-rows-at.result c.index-rows-k.result (omega (arith, c.loop-k.auto.k)) c.loop-k-test.true c.index-rows-at.is c.index-rows-k.is
    (refuted c.is_before.result c.is_before.ensures.before c.if-not-is_before.true))

pub loop-k-init : goal.loop-k-init
loop-k-init c = none_adjacent (λ (row : TableDocument). row.document) c.args.rows.now

pub loop-k-preserved : goal.loop-k-preserved
loop-k-preserved c =
    adjacent_more (λ (row : TableDocument). row.document) c.args.rows.now c.loop-k.k (c.loop-k.k - 1) c.index-rows-at.result c.index-rows-k.result (omega (arith, c.loop-k.auto.k)) c.loop-k-test.true c.index-rows-at.is c.index-rows-k.is
    (c.is_before.ensures.before.0 c.if-not-is_before.false) c.loop-k.invariant

pub returns : goal.returns
returns c = yes_iff (ascends_whole (λ (row : TableDocument). row.document) c.args.rows.now c.loop-k.k c.loop-k-test.false c.loop-k.invariant)

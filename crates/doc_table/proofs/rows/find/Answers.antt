use Rattle.doc_table.proofs.Changed.{absent_past, absent_at}
use Rattle.doc_table.proofs.rows.find.Goals as goal

pub returns-then-at-rows-clause-none : goal.returns-then-at-rows-clause-none
returns-then-at-rows-clause-none g c = absent_past c.args.document.now c.args.rows.now c.place-at.result c.requires c.place-at.ensures c.if-at-rows.true

pub returns-then-ne-clause-none : goal.returns-then-ne-clause-none
returns-then-ne-clause-none g c =
    absent_at c.args.document.now c.args.rows.now c.place-at.result c.index-rows-at.result c.requires c.place-at.ensures c.if-at-rows.false c.index-rows-at.is c.deref.result.now c.deref.ensures c.if-ne.ensures

use Rattle.febe_fields.proofs.ManyLoop.{one_more, none_more, all_read}
use Rattle.page_tables.specs.TableReading.{document_at}
use Rattle.page_tables.proofs.documents.many_documents_at.Goals as goal

pub returns-in_default : goal.returns-in_default
returns-in_default c = none_more document_at c.loop.rows.items c.args.count c.loop.counter c.loop.rest.now _ c.loop-test.true c.in_default.ensures c.loop.invariant

pub loop-preserved : goal.loop-preserved
loop-preserved c =
    rw (c.push_reserved.ensures.items, c.in_ok-reserve.ensures.items)
    (one_more document_at c.loop.rows.items c.args.count c.loop.counter c.loop.rest.now c.in-Some.row c.in-Some.behind.now _ c.loop-test.true c.in-Some.ensures c.loop.invariant)

pub returns : goal.returns
returns c = all_read document_at c.loop.rows.items c.args.count c.loop.counter c.loop.rest.now _ c.loop-test.false c.loop.invariant

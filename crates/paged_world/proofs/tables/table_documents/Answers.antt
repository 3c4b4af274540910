use Rattle.page_tables.specs.declared.tables.TableDocument.{TableDocument}
use Rattle.paged_world.proofs.Listed.{document_more}
use Rattle.paged_world.proofs.tables.table_documents.Goals as goal

pub loop-k-preserved : goal.loop-k-preserved
loop-k-preserved c =
    let item : TableDocument = record { document = c.copy.result; root = c.number.result; content = c.content.result } in
    document_more c.args.documents.now c.loop-k.k c.in-Some.document.now c.in-Some-root_at.root c.loop-k.made.items c.push.new.self.items item c.in_order.ensures
    c.in-Some.ensures c.in-Some-root_at.ensures c.copy.ensures c.number.ensures c.content.ensures c.in_ok-push.ensures.ok c.loop-k.invariant

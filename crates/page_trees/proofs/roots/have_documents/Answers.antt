use Rattle.page_trees.proofs.Rooted.{rooted-none, rooted-more}
use Rattle.page_trees.proofs.roots.have_documents.Goals as goal

pub loop-row-init : goal.loop-row-init
loop-row-init c = rooted-none c.args.rows.now c.args.count

pub loop-row-preserved : goal.loop-row-preserved
loop-row-preserved c = rooted-more c.args.rows.now c.args.count c.loop-row.row-index c.row-item.result c.loop-row-test.true c.row-item.is c.if-row-count.false c.loop-row.invariant

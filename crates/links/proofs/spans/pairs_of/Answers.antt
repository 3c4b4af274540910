use Rattle.links.proofs.OrderedSpans.{pairs_more}
use Rattle.links.proofs.spans.pairs_of.Goals as goal

pub loop-row-preserved : goal.loop-row-preserved
loop-row-preserved c =
    pairs_more c.args.rows.now c.loop-row.row-index c.row-item.result c.copy.result c.copy-in-loop-row.result c.loop-row.pairs.keys c.insert.new.self.keys c.loop-row-test.true c.row-item.is c.copy.ensures c.copy-in-loop-row.ensures c.loop-row.invariant c.in_ok-insert.ensures.keys

use Rattle.world_rules.specs.Readers.{reads_by}
use Rattle.links.proofs.ReadLinks.{pairs_more_read}
use Rattle.links.proofs.spans.pairs_read.Goals as goal

pub loop-row-preserved : goal.loop-row-preserved
loop-row-preserved g c =
    pairs_more_read (reads_by (g.R.Readers.publishes c.args.readers.now) c.args.account.now) c.args.table.now c.args.rows.now c.loop-row.row-index c.row-item.result c.loop-row.pairs.keys c.take_pair.new.pairs.keys c.loop-row-test.true c.row-item.is c.loop-row.invariant
    c.in_ok-take_pair.ensures

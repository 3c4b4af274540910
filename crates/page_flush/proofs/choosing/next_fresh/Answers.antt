-- The number is spared too.
use Rattle.page_flush.proofs.FreshPages.{lowest_more}
use Rattle.page_flush.proofs.choosing.next_fresh.Goals as goal

pub loop-number-preserved : goal.loop-number-preserved
loop-number-preserved c = lowest_more c.args.spared.now c.args.from c.loop-number.number c.loop-number.invariant (cc)

use Rattle.granfilade.proofs.WholeRows.{whole-here}
use Rattle.granfilade.proofs.whole.in_row.Goals as goal

pub returns : goal.returns
returns c = whole-here c.args.row.now c.args.start.now c.as_slice-held.result.now c.args.count c.in_ok-from.from c.as_slice-held.ensures c.in_ok-from.ensures.filled c.in_ok-from.ensures.start c.in_ok-from.ensures.within

use Rattle.poom_compare.proofs.IntervalSteps.{interval_is}
use Rattle.poom_compare.proofs.positions.interval_of.Goals as goal

pub returns : goal.returns
returns c = interval_is c.args.span.now c.add.result c.args.length c.bound.result c.bound-2.result c.add.ensures c.bound.ensures c.bound-2.ensures

use Rattle.std.proofs.Common.{◌-◌, ap, arith}
use Rattle.world_rules.proofs.CountSteps.{counts_as, counts_none}
use Rattle.world_rules.proofs.counts.count_down.Goals as goal

pub returns-then-count-le1 : goal.returns-then-count-le1
returns-then-count-le1 c =
    let few = c.if-count-le1.true in
    let is = c.count_of-count.ensures in
    counts_none c.args.address _ c.args.counts.now c.remove.new.self c.remove.ensures.updates.0 (omega (arith, few, is))

pub returns : goal.returns
returns c = counts_as c.args.address _ _ c.args.counts.now c.insert.new.self c.in-Ok.ensures.updates.0 (ap (λ n. n - 1) c.count_of-count.ensures)

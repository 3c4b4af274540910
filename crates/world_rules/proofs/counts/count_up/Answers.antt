use Rattle.std.proofs.Common.{◌+◌, ap}
use Rattle.world_rules.proofs.CountSteps.{counts_as}
use Rattle.world_rules.proofs.counts.count_up.Goals as goal

pub returns-clause-counted : goal.returns-clause-counted
returns-clause-counted c = counts_as c.args.address _ _ c.args.counts.now c.insert.new.self c.in_ok-insert.ensures.updates.0 (ap (λ n. n + 1) c.count_of-count.ensures)

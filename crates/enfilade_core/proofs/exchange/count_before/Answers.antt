use Rattle.std.proofs.Common.{rules, of_calls}
use Rattle.std.proofs.lemmas.Fn.{always_returns_same}
use Rattle.tumbler.specs.Places.{comes_before}
use Rattle.enfilade_core.proofs.ExchangeBottom.{parted-before, count-parted}
use Rattle.enfilade_core.proofs.exchange.count_before.Goals as goal

pub returns : goal.returns
returns g c =
    let at = c.args.at.now in
    let rows = c.args.rows.now in
    let point = c.partition_point.ensures.partitioned (λ row. comes_before row.first at) (always_returns_same _ _ _ (λ a r f k. search (rules, of_calls))) (parted-before at rows c.requires) in
    count-parted at rows c.partition_point.result c.partition_point.ensures.bound point.0 point.1

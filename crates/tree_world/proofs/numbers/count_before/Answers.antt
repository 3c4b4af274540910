use Rattle.std.proofs.Common.{rules}
use Rattle.std.proofs.lemmas.List.Sorted.{IsPartitionPoint-from_clause, IsPartitionedBy-ltb}
use Rattle.std.specs.Prelude.{nat_lt}
use Rattle.poom_compare.specs.declared.positions.Interval.{Interval}
use Rattle.tree_world.proofs.ByContent.{starts_rise, without_back, lt_tested}
use Rattle.tree_world.proofs.numbers.count_before.Goals as goal

pub returns : goal.returns
returns c =
    let numbers = c.args.numbers.now in
    let point =
    IsPartitionPoint-from_clause (λ (y : Interval). nat_lt y.from c.args.to) numbers c.partition_point.result c.partition_point.ensures.partitioned
    (IsPartitionedBy-ltb (λ (y : Interval). y.from) numbers c.args.to (starts_rise numbers c.requires.each c.requires.apart)) (λ a r q k. search rules)
    in
    record { within = c.partition_point.ensures.bound; same = λ m lt. without_back numbers c.partition_point.result c.args.to m lt (λ j d le within. lt_tested _ _ (point.1 j d le within)) }

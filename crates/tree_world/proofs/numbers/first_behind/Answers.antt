use Rattle.std.proofs.Common.{rules, arith}
use Rattle.std.proofs.lemmas.List.Sorted.{IsPartitionPoint-from_clause, IsPartitionedBy-leb}
use Rattle.std.specs.Prelude.{nat_le}
use Rattle.poom_compare.specs.declared.positions.Interval.{Interval}
use Rattle.tree_world.proofs.ByContent.{ends_rise, without_front, le_tested}
use Rattle.tree_world.proofs.numbers.first_behind.Goals as goal

pub returns : goal.returns
returns c =
    let numbers = c.args.numbers.now in
    let point =
    IsPartitionPoint-from_clause (λ (y : Interval). nat_le y.to c.args.from) numbers c.partition_point.result c.partition_point.ensures.partitioned
    (IsPartitionedBy-leb (λ (y : Interval). y.to) numbers c.args.from (ends_rise numbers c.requires.each c.requires.apart)) (λ a r q k. search rules)
    in
    record { within = c.partition_point.ensures.bound; same = λ m le. without_front numbers c.partition_point.result c.args.from m le (λ j d lt within. le_tested _ _ (point.0 j d (omega arith) lt)) }

use Rattle.std.proofs.Common.{rules, ◌*◌}
use Rattle.std.proofs.lemmas.List.Sorted.{IsPartitionPoint-from_clause, IsPartitionedBy-ltb}
use Rattle.std.specs.Prelude.{nat_lt}
use Rattle.poom_compare.specs.Segments.{begin_key}
use Rattle.poom_compare.proofs.Sought.{split_below}
use Rattle.poom_compare.proofs.starts.first_from.Goals as goal

pub returns : goal.returns
returns c =
    split_below c.args.inners.now (c.args.number * 18446744073709551616) c.partition_point.result c.partition_point.ensures.bound
    (IsPartitionPoint-from_clause (λ y. nat_lt (begin_key y) (c.args.number * 18446744073709551616)) c.args.inners.now c.partition_point.result c.partition_point.ensures.partitioned (IsPartitionedBy-ltb begin_key c.args.inners.now (c.args.number * 18446744073709551616) c.requires) (λ a r q k. search rules))

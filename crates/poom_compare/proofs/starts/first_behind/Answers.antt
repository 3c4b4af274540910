use Rattle.std.proofs.Common.{rules}
use Rattle.std.proofs.lemmas.List.Sorted.{IsPartitionPoint-from_clause, IsPartitionedBy-leb}
use Rattle.std.specs.Prelude.{nat_le}
use Rattle.poom_compare.specs.Segments.{begin_key}
use Rattle.poom_compare.proofs.Sought.{split_upto}
use Rattle.poom_compare.proofs.starts.first_behind.Goals as goal

pub returns : goal.returns
returns c =
    split_upto c.args.inners.now (begin_key c.args.inner.now) c.partition_point.result c.partition_point.ensures.bound
    (IsPartitionPoint-from_clause (λ y. nat_le (begin_key y) (begin_key c.args.inner.now)) c.args.inners.now c.partition_point.result c.partition_point.ensures.partitioned (IsPartitionedBy-leb begin_key c.args.inners.now (begin_key c.args.inner.now) c.requires) (λ a r q k. search rules))

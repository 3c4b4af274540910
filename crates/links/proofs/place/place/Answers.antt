use Rattle.std.proofs.Common.{rules}
use Rattle.std.proofs.lemmas.List.Sorted.{IsPartitionPoint-from_clause}
use Rattle.links.specs.inside.Kept.{is_before}
use Rattle.tumbler.proofs.RowsInOrder.{place_is}
use Rattle.links.proofs.Ordered.{parted}
use Rattle.links.proofs.place.place.Goals as goal

pub returns : goal.returns
returns c =
    place_is (is_before c.args.id.now) c.args.links.now c.partition_point.result c.partition_point.ensures.bound
    (IsPartitionPoint-from_clause (is_before c.args.id.now) c.args.links.now c.partition_point.result c.partition_point.ensures.partitioned (parted c.args.id.now c.args.links.now c.requires) (λ a r q k. search rules))

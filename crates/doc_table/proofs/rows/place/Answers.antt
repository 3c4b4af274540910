use Rattle.std.proofs.Common.{rules}
use Rattle.std.proofs.lemmas.List.Sorted.{IsPartitionPoint-from_clause}
use Rattle.doc_table.specs.inside.Kept.{is_before}
use Rattle.tumbler.proofs.RowsInOrder.{place_is}
use Rattle.doc_table.proofs.Ordered.{parted}
use Rattle.doc_table.proofs.rows.place.Goals as goal

pub returns : goal.returns
returns g c =
    place_is (is_before c.args.document.now) c.args.rows.now c.partition_point.result c.partition_point.ensures.bound
    (IsPartitionPoint-from_clause (is_before c.args.document.now) c.args.rows.now c.partition_point.result c.partition_point.ensures.partitioned (parted c.args.document.now c.args.rows.now c.requires) (λ a r q k. search rules))

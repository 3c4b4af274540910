use Rattle.std.proofs.Common.{rules}
use Rattle.std.proofs.lemmas.List.Sorted.{IsPartitionPoint-from_clause}
use Rattle.tumbler.proofs.RowsInOrder.{place_is, parted}
use Rattle.page_tables.specs.declared.tables.TableDocument.{TableDocument}
use Rattle.table_checks.specs.inside.Places.{is_before}
use Rattle.table_checks.proofs.documents.place.Goals as goal

pub returns : goal.returns
returns c =
    place_is (is_before c.args.address.now) c.args.rows.now c.partition_point.result c.partition_point.ensures.bound
    (IsPartitionPoint-from_clause (is_before c.args.address.now) c.args.rows.now c.partition_point.result c.partition_point.ensures.partitioned (parted (λ (row : TableDocument). row.document) c.args.address.now c.args.rows.now c.requires) (λ a r q k. search rules))

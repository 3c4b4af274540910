-- Documents that ascend are parted where the search ends.
use Rattle.std.proofs.Common.{rules}
use Rattle.std.proofs.lemmas.List.Sorted.{IsPartitionPoint-from_clause}
use Rattle.page_tables.specs.declared.tables.TableDocument.{TableDocument}
use Rattle.tumbler.specs.Places.{comes_before}
use Rattle.tumbler.proofs.RowsInOrder.{parted}
use Rattle.content_checks.proofs.listed.place.Goals as goal

pub returns : goal.returns
returns c =
    IsPartitionPoint-from_clause (λ (row : TableDocument). comes_before row.document c.args.document.now) c.args.documents.now c.partition_point.result c.partition_point.ensures.partitioned
    (parted (λ (row : TableDocument). row.document) c.args.document.now c.args.documents.now c.requires.ascend) (λ a r q k. search rules)

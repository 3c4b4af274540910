-- Links that ascend are parted where the search ends.
use Rattle.std.proofs.Common.{rules}
use Rattle.std.proofs.lemmas.List.Sorted.{IsPartitionPoint-from_clause}
use Rattle.page_tables.specs.declared.tables.TableLink.{TableLink}
use Rattle.tumbler.specs.Places.{comes_before}
use Rattle.tumbler.proofs.RowsInOrder.{parted}
use Rattle.content_checks.proofs.ListedLinks.{id_of, ascending}
use Rattle.content_checks.proofs.listed.place_of_link.Goals as goal

pub returns : goal.returns
returns c =
    IsPartitionPoint-from_clause (λ (link : TableLink). comes_before link.id c.args.id.now) c.args.links.now c.partition_point.result c.partition_point.ensures.partitioned
    (parted id_of c.args.id.now c.args.links.now (ascending c.args.links.now c.requires)) (λ a r q k. search rules)

use Rattle.std.proofs.Common.{rules}
use Rattle.std.proofs.lemmas.List.Sorted.{IsPartitionPoint-from_clause}
use Rattle.tumbler.specs.Places.{comes_before}
use Rattle.tumbler.specs.declared.span.Span.{Span}
use Rattle.tumbler.proofs.RowsInOrder.{place_is}
use Rattle.links.proofs.LastMet.{starts_parted}
use Rattle.links.proofs.finding.starting_before.Goals as goal

pub returns-clause-value : goal.returns-clause-value
returns-clause-value c =
    place_is (λ (span : Span). comes_before span.start c.args.place.now) c.args.spans.now c.partition_point.result c.partition_point.ensures.bound
    (IsPartitionPoint-from_clause (λ (span : Span). comes_before span.start c.args.place.now) c.args.spans.now c.partition_point.result c.partition_point.ensures.partitioned (starts_parted c.args.place.now c.args.spans.now c.requires) (λ a r q k. search rules))

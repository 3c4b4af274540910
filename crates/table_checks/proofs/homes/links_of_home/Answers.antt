use Rattle.std.proofs.Common.{rules, arith}
use Rattle.std.proofs.lemmas.List.Sorted.{IsPartitionPoint-from_clause}
use Rattle.tumbler.proofs.RowsInOrder.{place_is}
use Rattle.table_checks.proofs.HomeCount.{is_under, is_within, under_parted, within_parted, home_count, sound_links, counted}
use Rattle.table_checks.proofs.homes.links_of_home.Goals as goal

pub overflow_sub-result : goal.overflow_sub-result
overflow_sub-result c =
    let links = c.as_slice-links.result.now in
    let home = c.args.home.now in
    let ascend = sound_links c.args.tables.now links c.as_slice-links.ensures c.requires in
    let start = place_is (is_under home) links c.partition_point-start.result c.partition_point-start.ensures.bound
    (IsPartitionPoint-from_clause (is_under home) links c.partition_point-start.result c.partition_point-start.ensures.partitioned (under_parted home links ascend) (λ a r q k. search rules)) in
    let end = place_is (is_within home) links c.partition_point-end.result c.partition_point-end.ensures.bound
    (IsPartitionPoint-from_clause (is_within home) links c.partition_point-end.result c.partition_point-end.ensures.partitioned (within_parted home links ascend) (λ a r q k. search rules)) in
    omega (arith, start, end, home_count home links ascend)

pub returns : goal.returns
returns c =
    let links = c.as_slice-links.result.now in
    let home = c.args.home.now in
    let ascend = sound_links c.args.tables.now links c.as_slice-links.ensures c.requires in
    let start = place_is (is_under home) links c.partition_point-start.result c.partition_point-start.ensures.bound
    (IsPartitionPoint-from_clause (is_under home) links c.partition_point-start.result c.partition_point-start.ensures.partitioned (under_parted home links ascend) (λ a r q k. search rules)) in
    let end = place_is (is_within home) links c.partition_point-end.result c.partition_point-end.ensures.bound
    (IsPartitionPoint-from_clause (is_within home) links c.partition_point-end.result c.partition_point-end.ensures.partitioned (within_parted home links ascend) (λ a r q k. search rules)) in
    counted home c.args.tables.now links c.as_slice-links.ensures ascend c.partition_point-start.result c.partition_point-end.result start end

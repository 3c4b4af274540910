use Rattle.granfilade.proofs.ReadBytes.{row_fits, row_reads, rows-end}
use Rattle.granfilade.proofs.parts.append_rows.Goals as goal

pub add-at-requires : goal.add-at-requires
add-at-requires c = row_fits c.args.first.now c.args.second.now c.args.rows.now c.loop-row.row-index c.row-item.result c.requires.well_formed c.loop-row-test.true c.row-item.is

pub returns-then-not-is_before-clause-ok : goal.returns-then-not-is_before-clause-ok
returns-then-not-is_before-clause-ok c =
    rows-end c.args.span.now c.args.first.now c.args.second.now c.args.rows.now c.loop-row.row-index c.row-item.result c.add-at.result c.args.end.now c.args.into.now.items c.loop-row.into.items c.is_before.result c.requires.start c.requires.well_formed c.requires.ordered
    c.loop-row-test.true c.row-item.is c.add-at.ensures c.requires.end c.is_before.ensures.value c.if-not-is_before.true c.loop-row.invariant

pub append_part-requires-clause-filled : goal.append_part-requires-clause-filled
append_part-requires-clause-filled c =
    (row_reads c.args.first.now c.args.second.now c.args.rows.now c.loop-row.row-index c.row-item.result c.add-at.result c.as_slice.result.now c.requires.well_formed c.loop-row-test.true c.row-item.is c.add-at.ensures c.as_slice.ensures).filled

pub append_part-requires-clause-room : goal.append_part-requires-clause-room
append_part-requires-clause-room c =
    (row_reads c.args.first.now c.args.second.now c.args.rows.now c.loop-row.row-index c.row-item.result c.add-at.result c.as_slice.result.now c.requires.well_formed c.loop-row-test.true c.row-item.is c.add-at.ensures c.as_slice.ensures).room

use Rattle.enfilade_core.specs.Axes.{IsWellFormedRow}
use Rattle.enfilade_core.specs.Planes.{text_widths}
use Rattle.granfilade.specs.Content.{content}
use Rattle.poom.specs.Positions.{IsPieceRow}
use Rattle.tree_world.proofs.TextRead.{row_item, row_read_next}
use Rattle.tree_world.proofs.text_reading.append_rows.Goals as goal

pub append_row-requires-clause-fits : goal.append_row-requires-clause-fits
append_row-requires-clause-fits c = row_item (IsWellFormedRow text_widths) c.args.first.now c.args.second.now c.args.rows.now c.loop-row.row-index c.row-item.result c.requires.fit c.loop-row-test.true c.row-item.is

pub append_row-requires-clause-piece : goal.append_row-requires-clause-piece
append_row-requires-clause-piece c = row_item IsPieceRow c.args.first.now c.args.second.now c.args.rows.now c.loop-row.row-index c.row-item.result c.requires.pieces c.loop-row-test.true c.row-item.is

pub loop-row-preserved : goal.loop-row-preserved
loop-row-preserved c =
    row_read_next (content c.args.contents.now) c.args.wanted.now.from c.args.wanted.now.to c.args.first.now c.args.second.now c.args.rows.now c.loop-row.row-index c.row-item.result c.args.into.now.items c.loop-row.into.items c.append_row.new.into.items
    c.loop-row-test.true c.row-item.is c.loop-row.invariant c.in_ok-append_row.ensures

use Rattle.std.proofs.Common.{arith}
use Rattle.poom.specs.Laid.{part_number}
use Rattle.poom.proofs.Intervals.{all_rows}
use Rattle.poom.proofs.shown.show.Goals as goal

pub returns : goal.returns
returns c =
    all_rows (part_number c.args.part) c.args.span.now c.args.rows.now c.loop-row.row-index c.args.spans.now.items c.loop-row.spans.items c.close.new.spans.items c.loop-row.held (omega (arith, c.loop-row-test.false)) c.loop-row.invariant.stand c.in_ok-close.ensures

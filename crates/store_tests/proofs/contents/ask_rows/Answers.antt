use Rattle.std.proofs.Common.{arith}
use Rattle.granfilade.proofs.WellFormedRows.{row_of}
use Rattle.store_tests.proofs.TestPlaces.{all_in_front}
use Rattle.store_tests.proofs.contents.ask_rows.Goals as goal

pub ask_row-requires : goal.ask_row-requires
ask_row-requires g c = row_of c.args.rows.now c.loop-row.row-index c.row-item.result c.requires c.loop-row-test.true c.row-item.is

pub returns : goal.returns
returns g c = all_in_front c.args.start.now c.args.rows.now c.loop-row.row-index (omega (arith, c.loop-row-test.false)) c.loop-row.invariant

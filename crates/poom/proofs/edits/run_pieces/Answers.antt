use Rattle.std.proofs.Common.{arith}
use Rattle.poom.proofs.Inserts.{laid-run, pushed_piece}
use Rattle.poom.proofs.edits.run_pieces.Goals as goal

pub loop-run-preserved : goal.loop-run-preserved
loop-run-preserved c = record {
  laid_so_far = laid-run c.args.runs.now c.loop-run.run-index c.loop-run.pieces.items c.push_reserved.new.self.items c.run_piece.result c.run-item.result c.loop-run-test.true c.run-item.is c.loop-run.invariant.laid_so_far
      c.run_piece.ensures.piece c.push_reserved.ensures.items;
  each = pushed_piece c.loop-run.pieces.items c.push_reserved.new.self.items c.run_piece.result c.push_reserved.ensures.items c.loop-run.invariant.each c.run_piece.ensures.well_formed;
  room = omega arith;
}

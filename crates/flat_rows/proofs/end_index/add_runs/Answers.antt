use Rattle.std.proofs.Common.{arith}
use Rattle.flat_rows.proofs.Indexed.{runs_more, runs_all}
use Rattle.flat_rows.proofs.end_index.add_runs.Goals as goal

pub loop-run-preserved : goal.loop-run-preserved
loop-run-preserved c =
    runs_more c.args.index.now c.loop-run.index c.add_run.new.index c.args.runs.now c.loop-run.run-index c.run-item.result c.loop-run-test.true c.run-item.is c.loop-run.invariant c.in_ok-add_run.ensures

pub returns : goal.returns
returns c = runs_all c.args.index.now c.loop-run.index c.args.runs.now c.loop-run.run-index (omega arith) c.loop-run.invariant

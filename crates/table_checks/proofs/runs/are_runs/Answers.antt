use Rattle.table_checks.specs.Sound.{IsLinkRun}
use Rattle.table_checks.proofs.Tested.{yes_iff, no_iff, refuted, more, whole, fails}
use Rattle.table_checks.proofs.runs.are_runs.Goals as goal

pub returns-then-not-is_run : goal.returns-then-not-is_run
returns-then-not-is_run c =
    no_iff (fails IsLinkRun c.args.runs.now c.loop-run.run-index c.run-item.result c.loop-run-test.true c.run-item.is (refuted c.is_run.result c.is_run.ensures c.if-not-is_run.true))

pub loop-run-preserved : goal.loop-run-preserved
loop-run-preserved c = more IsLinkRun c.args.runs.now c.loop-run.run-index c.run-item.result c.loop-run-test.true c.run-item.is (c.is_run.ensures.0 c.if-not-is_run.false) c.loop-run.invariant

pub returns : goal.returns
returns c = yes_iff (whole IsLinkRun c.args.runs.now c.loop-run.run-index c.loop-run-test.false c.loop-run.invariant)

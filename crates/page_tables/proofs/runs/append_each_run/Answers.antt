use Rattle.disk_fields.proofs.Written.{none_written, more_written}
use Rattle.page_tables.specs.TableBytes.{run_bytes, IsRun}
use Rattle.page_tables.proofs.runs.append_each_run.Goals as goal

pub loop-run-init : goal.loop-run-init
loop-run-init c = none_written IsRun run_bytes c.args.out.now.items

pub loop-run-preserved : goal.loop-run-preserved
loop-run-preserved c =
    more_written IsRun run_bytes _ _ _ c.args.runs.now c.loop-run.run-index c.run-item.result c.loop-run-test.true c.run-item.is c.loop-run.invariant c.in_ok-append_run.ensures.spelled c.in_ok-append_run.ensures.right

use Rattle.tumbler.specs.Span.{SpanFits}
use Rattle.links.specs.LinkLists.{IsRun, run_span}
use Rattle.tree_world.proofs.Lists.{more_of_all, all_of_all, mapped_more, pushed_right}
use Rattle.tree_world.proofs.linking.spans_of_runs.Goals as goal

pub loop-run-preserved : goal.loop-run-preserved
loop-run-preserved c = (
  mapped_more run_span c.args.runs.now c.loop-run.run-index c.run-item.result c.in_ok-span_of_run.field-0 c.loop-run.made.items c.push.new.self.items c.loop-run-test.true c.run-item.is c.loop-run.invariant.0 c.in_ok-push.ensures.ok c.in_ok-span_of_run.ensures.value,
  pushed_right SpanFits c.loop-run.made.items c.push.new.self.items c.in_ok-span_of_run.field-0 c.in_ok-push.ensures.ok c.loop-run.invariant.1 c.in_ok-span_of_run.ensures.fits,
  more_of_all IsRun c.args.runs.now c.loop-run.run-index c.run-item.result c.loop-run-test.true c.run-item.is c.loop-run.invariant.2 c.in_ok-span_of_run.ensures.right,
)

pub returns-clause-right : goal.returns-clause-right
returns-clause-right c = all_of_all IsRun c.args.runs.now c.loop-run.run-index c.loop-run-test.false c.loop-run.invariant.2

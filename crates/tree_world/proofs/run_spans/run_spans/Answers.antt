use Rattle.std.proofs.Common.{sym, subst}
use Rattle.std.specs.List.{All}
use Rattle.tumbler.specs.Span.{SpanFits}
use Rattle.links.proofs.RunPlaces.{runs_fit, spans_all}
use Rattle.tree_world.proofs.Runs.{are_runs}
use Rattle.tree_world.proofs.run_spans.run_spans.Goals as goal

pub returns-clause-fit : goal.returns-clause-fit
returns-clause-fit c =
    subst (All SpanFits) (sym (spans_all c.args.runs.now c.loop-run.made.items c.loop-run.run-index c.loop-run-test.false c.loop-run.invariant)) (runs_fit c.args.runs.now (are_runs c.args.runs.now c.requires))

use Rattle.std.proofs.Common.{subst}
use Rattle.std.proofs.lemmas.List.Elements.{All-more}
use Rattle.index_checks.specs.inside.Addressed.{HasAddress}
use Rattle.index_checks.proofs.RunRows.{more_runs}
use Rattle.index_checks.proofs.runs.append_runs.Goals as goal

pub loop-run-preserved : goal.loop-run-preserved
loop-run-preserved c = record {
  addressed = All-more HasAddress c.args.runs.now c.loop-run.run-index c.run-item.result c.loop-run-test.true c.loop-run.invariant.addressed (subst HasAddress c.run-item.is c.in-Some.ensures.addressed);
  rows = more_runs c.args.key.now c.args.into.now.items c.loop-run.into.items c.push.new.self.items c.args.runs.now c.loop-run.run-index c.run-item.result c.in-Some.row c.loop-run.invariant.rows c.in-Some.ensures.made c.in_ok-push.ensures.items c.loop-run-test.true c.run-item.is;
}

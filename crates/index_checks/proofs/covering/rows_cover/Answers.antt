use Rattle.std.proofs.Common.{arith, refl, subst}
use Rattle.std.specs.List.{All}
use Rattle.std.proofs.lemmas.List.{take_all}
use Rattle.std.proofs.lemmas.List.Elements.{All-more}
use Rattle.index_checks.specs.inside.Points.{IsRunCoveredBy}
use Rattle.index_checks.proofs.covering.rows_cover.Goals as goal

pub loop-run-preserved : goal.loop-run-preserved
loop-run-preserved c =
    All-more (IsRunCoveredBy c.args.rows.now) c.args.shown.now c.loop-run.run-index c.run-item.result c.loop-run-test.true c.loop-run.invariant (subst (IsRunCoveredBy c.args.rows.now) c.run-item.is (c.is_run_covered.ensures.0 c.if-not-is_run_covered.false))

pub returns : goal.returns
returns c = (
  λ t. subst (All (IsRunCoveredBy c.args.rows.now)) (take_all c.loop-run.run-index c.args.shown.now (omega arith)) c.loop-run.invariant,
  λ all. refl,
)

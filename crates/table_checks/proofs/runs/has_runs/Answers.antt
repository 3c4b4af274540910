use Rattle.std.proofs.Common.{All, subst, sym}
use Rattle.table_checks.specs.Sound.{IsLinkRun}
use Rattle.table_checks.proofs.Tested.{no_iff, refuted}
use Rattle.table_checks.proofs.runs.has_runs.Goals as goal

pub returns-then-not-are_runs : goal.returns-then-not-are_runs
returns-then-not-are_runs c = no_iff (λ has. refuted c.are_runs.result c.are_runs.ensures c.if-not-are_runs.true (subst (All IsLinkRun) (sym c.as_slice.ensures) has.from))

pub returns-then-not-are_runs-2 : goal.returns-then-not-are_runs-2
returns-then-not-are_runs-2 c = no_iff (λ has. refuted c.are_runs-2.result c.are_runs-2.ensures c.if-not-are_runs-2.true (subst (All IsLinkRun) (sym c.as_slice-2.ensures) has.to))

pub returns : goal.returns
returns c = (
  (λ t. record {
    from = subst (All IsLinkRun) c.as_slice.ensures (c.are_runs.ensures.0 c.if-not-are_runs.false);
    to = subst (All IsLinkRun) c.as_slice-2.ensures (c.are_runs-2.ensures.0 c.if-not-are_runs-2.false);
    three = subst (All IsLinkRun) c.as_slice-3.ensures (c.are_runs-3.ensures.0 t);
  }),
  (λ has. c.are_runs-3.ensures.1 (subst (All IsLinkRun) (sym c.as_slice-3.ensures) has.three)),
)

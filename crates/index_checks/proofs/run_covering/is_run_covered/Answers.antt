use Rattle.std.proofs.Common.{ℕ, ◌+◌, arith, refl, sym, true≢false}
use Rattle.index_checks.proofs.CoveredRows.{covered_up_to, never_covered, run_covered}
use Rattle.index_checks.proofs.run_covering.is_run_covered.Goals as goal

pub returns-then-next-at : goal.returns-then-next-at
returns-then-next-at c =
    let run = c.args.run.now in (
      λ t. absurd (true≢false (sym t)),
      λ all. absurd
          (never_covered c.args.rows.now run c.of_byte.result c.reach_at-reach.result c.loop-at.at (run.first + run.length) c.first_beyond-next.result c.of_byte.ensures c.reach_at-reach.ensures c.first_beyond-next.ensures.each
          (omega arith) (omega arith) refl (omega arith) all),
    )

pub loop-at-preserved : goal.loop-at-preserved
loop-at-preserved c =
    let run = c.args.run.now in
    record {
      from = omega arith;
      to = c.first_beyond-next.ensures.to;
      covered = covered_up_to c.args.rows.now run c.of_byte.result c.reach_at-reach.result c.loop-at.at (run.first + run.length) c.first_beyond-next.result c.of_byte.ensures c.reach_at-reach.ensures c.first_beyond-next.ensures.each c.first_beyond-next.ensures.to c.loop-at.invariant.covered;
    }

pub returns : goal.returns
returns c =
    let run = c.args.run.now in
    (λ t. run_covered c.args.rows.now run c.loop-at.at (run.first + run.length) refl (omega arith) c.loop-at.invariant.covered, λ all. refl)

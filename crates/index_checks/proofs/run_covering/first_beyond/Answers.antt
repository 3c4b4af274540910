use Rattle.std.proofs.Common.{ℕ, ◌+◌, ◌-◌, ◌/◌, arith, sym, ◌∙◌}
use Rattle.index_checks.proofs.CoveredRows.{before_on, beyond_on}
use Rattle.index_checks.proofs.run_covering.first_beyond.Goals as goal

pub loop-low-preserved-then-is_before : goal.loop-low-preserved-then-is_before
loop-low-preserved-then-is_before c =
    let middle : ℕ = c.loop-low.low + (c.loop-low.high - c.loop-low.low) / 2 in
    record {
      from = omega arith;
      ordered = omega arith;
      to = c.loop-low.invariant.to;
      before = before_on c.args.key.now c.args.content.now c.of_byte.result c.args.reach.now c.args.from middle c.of_byte.ensures (sym c.is_before.ensures ∙ c.if-is_before.true);
      beyond = c.loop-low.invariant.beyond;
    }

pub loop-low-preserved : goal.loop-low-preserved
loop-low-preserved c =
    let middle : ℕ = c.loop-low.low + (c.loop-low.high - c.loop-low.low) / 2 in
    record {
      from = c.loop-low.invariant.from;
      ordered = omega arith;
      to = omega arith;
      before = c.loop-low.invariant.before;
      beyond = beyond_on c.args.key.now c.args.content.now c.of_byte.result c.args.reach.now middle c.args.to c.of_byte.ensures (sym c.is_before.ensures ∙ c.if-is_before.false);
    }

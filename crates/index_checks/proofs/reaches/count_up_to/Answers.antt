use Rattle.std.proofs.Common.{◌≡◌, ℕ, ◌+◌, ◌-◌, ◌/◌, ◌<◌, true, false, length, arith, ap, sym, ◌∙◌}
use Rattle.index_checks.specs.inside.Points.{is_point_before, starts_behind}
use Rattle.index_checks.proofs.Reaching.{behind_from, up_to_here}
use Rattle.index_checks.proofs.reaches.count_up_to.Goals as goal

pub loop-low-preserved-then-is_before : goal.loop-low-preserved-then-is_before
loop-low-preserved-then-is_before c =
    let middle : ℕ = c.loop-low.low + (c.loop-low.high - c.loop-low.low) / 2 in
    let within : c.loop-low.low + (c.loop-low.high - c.loop-low.low) / 2 < length c.args.rows.now = omega arith in
    record {
      ordered = omega arith;
      within = omega arith;
      up_to = c.loop-low.invariant.up_to;
      behind = behind_from c.args.rows.now middle c.args.point.now c.index-rows-middle.result c.requires within c.index-rows-middle.is (ap (is_point_before c.args.point.now) (sym c.start_of.ensures) ∙ sym c.is_before.ensures ∙ c.if-is_before.true);
    }

pub loop-low-preserved : goal.loop-low-preserved
loop-low-preserved c =
    let middle : ℕ = c.loop-low.low + (c.loop-low.high - c.loop-low.low) / 2 in
    let within : c.loop-low.low + (c.loop-low.high - c.loop-low.low) / 2 < length c.args.rows.now = omega arith in
    record {
      ordered = omega arith;
      within = c.loop-low.invariant.within;
      up_to = up_to_here c.args.rows.now middle c.args.point.now c.index-rows-middle.result c.requires within c.index-rows-middle.is (ap (is_point_before c.args.point.now) (sym c.start_of.ensures) ∙ sym c.is_before.ensures ∙ c.if-is_before.false);
      behind = c.loop-low.invariant.behind;
    }

use Rattle.std.proofs.Common.{◌∙◌, ◌-◌, sym, arith}
use Rattle.enfilade_sweep.specs.Sweep.{numbers}
use Rattle.enfilade_sweep.proofs.Reaching.{blank, marked_first, marked_next}
use Rattle.enfilade_sweep.proofs.marks.reached.Goals as goal

pub loop-number-init : goal.loop-number-init
loop-number-init g c = record {
  most = omega (arith, c.count-number.ensures);
  marked = marked_first c.args.old.now (numbers c.args.roots.now) _ c.mark_roots.new.marks.items c.count-number.result (blank _ _ _ _ _ c.in_ok-resize.ensures.items c.new-marks.ensures.items c.new-marks.ensures.len (c.count.ensures ∙ sym c.count-number.ensures)) c.count-number.ensures c.mark_roots.ensures.long c.mark_roots.ensures.marked;
}

pub loop-number-preserved : goal.loop-number-preserved
loop-number-preserved g c = record {
  most = omega (arith, c.loop-number.invariant.most);
  marked =
      marked_next c.args.old.now (numbers c.args.roots.now) c.loop-number.marks.items c.mark_from.new.marks.items c.loop-number.number (c.loop-number.number - 1) (omega (arith, c.loop-number-test.true)) c.loop-number.invariant.marked c.mark_from.ensures.below
      c.mark_from.ensures.long c.mark_from.ensures.marked c.mark_from.ensures.unmarked;
}

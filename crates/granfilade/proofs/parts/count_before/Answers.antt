use Rattle.std.proofs.Common.{◌+◌, ◌-◌, ◌/◌, arith, ap, ◌∙◌, sym}
use Rattle.tumbler.specs.Places.{comes_before}
use Rattle.granfilade.proofs.Counting.{all-before, halved-up, halved-down}
use Rattle.granfilade.proofs.parts.count_before.Goals.{then-count-eq0-via-then-count-eq0, then-count-eq0-via-else-count-eq0+then-is_before}
use Rattle.granfilade.proofs.parts.count_before.Goals as goal

pub returns-then-count-eq0-clause-each : goal.returns-then-count-eq0-clause-each
returns-then-count-eq0-clause-each c = λ k lt. elim c.then-count-eq0.branch [
  | then-count-eq0-via-then-count-eq0 w ↦ absurd (omega (arith, lt, w.if-count-eq0.true))
  | then-count-eq0-via-else-count-eq0+then-is_before w ↦
      all-before c.args.start.now c.args.count c.args.at.now c.requires.filled (omega (arith, lt))
      (ap (λ p. comes_before p c.args.at.now) (sym w.so_far_on.ensures) ∙ sym w.is_before.ensures.value ∙ w.if-is_before.true) k lt
]

pub loop-low-preserved-then-is_before-2 : goal.loop-low-preserved-then-is_before-2
loop-low-preserved-then-is_before-2 c =
    halved-up c.args.start.now c.args.count c.args.at.now c.loop-low.low c.loop-low.high (c.loop-low.low + (c.loop-low.high - c.loop-low.low) / 2) c.requires.filled (omega (arith, c.loop-low-test.true))
    (ap (λ p. comes_before p c.args.at.now) (sym c.so_far_on-in-loop-low.ensures) ∙ sym c.is_before-in-loop-low.ensures.value ∙ c.if-is_before-2.true) c.loop-low.invariant

pub loop-low-preserved : goal.loop-low-preserved
loop-low-preserved c =
    halved-down c.args.start.now c.args.count c.args.at.now c.loop-low.low c.loop-low.high (c.loop-low.low + (c.loop-low.high - c.loop-low.low) / 2) c.requires.filled (omega arith) (omega (arith, c.loop-low-test.true))
    (ap (λ p. comes_before p c.args.at.now) (sym c.so_far_on-in-loop-low.ensures) ∙ sym c.is_before-in-loop-low.ensures.value ∙ c.if-is_before-2.false) c.loop-low.invariant

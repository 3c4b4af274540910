use Rattle.std.proofs.Common.{arith}
use Rattle.std.proofs.lemmas.Bool.{iff_false}
use Rattle.tree_compare.specs.declared.stretch.Stretch.{Stretch}
use Rattle.tree_compare.specs.Stretches.{laid_stretch, byte_count}
use Rattle.tree_compare.proofs.SideBySide.{other-ended, both-ended, parts-differ, step-least, beside-on}
use Rattle.tree_compare.proofs.Parts.{stretch-counted, stretches-filled}
use Rattle.tree_compare.proofs.stretch.same_stretches.Goals as goal

pub returns-then-right-other : goal.returns-then-right-other
returns-then-right-other c =
    other-ended laid_stretch byte_count c.args.one.now c.args.other.now c.loop-left.left c.loop-left.right stretch-counted
    (record { together = c.loop-left.invariant.0; here = c.loop-left.invariant.1; there = c.loop-left.invariant.2 }) c.loop-left-test.true c.if-right-other.true

pub returns-then-not-same_part : goal.returns-then-not-same_part
returns-then-not-same_part c =
    parts-differ laid_stretch byte_count c.args.one.now c.args.other.now c.loop-left.left c.loop-left.right c.index-one-left.result c.index-other-right.result c.min-count.result
    (step-least laid_stretch byte_count c.args.one.now c.args.other.now c.loop-left.left c.loop-left.right c.index-one-left.result c.index-other-right.result c.min-count.result stretch-counted
    (record { together = c.loop-left.invariant.0; here = c.loop-left.invariant.1; there = c.loop-left.invariant.2 }) c.loop-left-test.true c.if-right-other.false c.index-one-left.is c.index-other-right.is c.min-count.ensures)
    (iff_false c.same_part.ensures c.if-not-same_part.true)

pub loop-left-preserved : goal.loop-left-preserved
loop-left-preserved c =
    let made = beside-on laid_stretch byte_count c.args.one.now c.args.other.now c.loop-left.left c.loop-left.right c.behind-left.result c.behind-right.result c.index-one-left.result c.index-other-right.result c.min-count.result
    (step-least laid_stretch byte_count c.args.one.now c.args.other.now c.loop-left.left c.loop-left.right c.index-one-left.result c.index-other-right.result c.min-count.result stretch-counted
    (record { together = c.loop-left.invariant.0; here = c.loop-left.invariant.1; there = c.loop-left.invariant.2 }) c.loop-left-test.true c.if-right-other.false c.index-one-left.is c.index-other-right.is c.min-count.ensures)
    (stretches-filled c.args.one.now c.requires.one) (stretches-filled c.args.other.now c.requires.other) (c.same_part.ensures.0 c.if-not-same_part.false) c.behind-left.ensures c.behind-right.ensures in
    (made.together, made.here, made.there)

pub returns : goal.returns
returns c =
    both-ended laid_stretch byte_count c.args.one.now c.args.other.now c.loop-left.left c.loop-left.right stretch-counted
    (record { together = c.loop-left.invariant.0; here = c.loop-left.invariant.1; there = c.loop-left.invariant.2 }) (omega (arith, c.loop-left-test.false))

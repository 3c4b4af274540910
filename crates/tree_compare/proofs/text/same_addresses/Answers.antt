use Rattle.std.proofs.Common.{arith}
use Rattle.tree_compare.specs.RowAddresses.{row_addresses, address_count}
use Rattle.tree_compare.proofs.SideBySide.{other-ended, both-ended}
use Rattle.tree_compare.proofs.RowParts.{row-counted}
use Rattle.tree_compare.proofs.RowsBeside.{rows-apart, rows-on}
use Rattle.tree_compare.proofs.text.same_addresses.Goals as goal

pub returns-then-right-other : goal.returns-then-right-other
returns-then-right-other c =
    other-ended row_addresses address_count c.args.one.now c.args.other.now c.loop-left.left c.loop-left.right row-counted
    (record { together = c.loop-left.invariant.0; here = c.loop-left.invariant.1; there = c.loop-left.invariant.2 }) c.loop-left-test.true c.if-right-other.true

pub returns-then-not-meet : goal.returns-then-not-meet
returns-then-not-meet c =
    rows-apart c.args.one.now c.args.other.now c.loop-left.left c.loop-left.right c.index-one-left.result c.index-other-right.result c.meet.result c.requires.one c.requires.other
    (record { together = c.loop-left.invariant.0; here = c.loop-left.invariant.1; there = c.loop-left.invariant.2 }) c.loop-left-test.true c.if-right-other.false c.index-one-left.is c.index-other-right.is c.meet.ensures c.if-not-meet.true

pub loop-left-preserved : goal.loop-left-preserved
loop-left-preserved c =
    let made = rows-on c.args.one.now c.args.other.now c.loop-left.left c.loop-left.right c.behind-left.result c.behind-right.result c.index-one-left.result c.index-other-right.result c.min-count.result c.meet.result c.requires.one c.requires.other
    (record { together = c.loop-left.invariant.0; here = c.loop-left.invariant.1; there = c.loop-left.invariant.2 }) c.loop-left-test.true c.if-right-other.false c.index-one-left.is c.index-other-right.is c.min-count.ensures c.meet.ensures c.if-not-meet.false
    c.behind-left.ensures c.behind-right.ensures in
    (made.together, made.here, made.there)

pub returns : goal.returns
returns c =
    both-ended row_addresses address_count c.args.one.now c.args.other.now c.loop-left.left c.loop-left.right row-counted
    (record { together = c.loop-left.invariant.0; here = c.loop-left.invariant.1; there = c.loop-left.invariant.2 }) (omega (arith, c.loop-left-test.false))

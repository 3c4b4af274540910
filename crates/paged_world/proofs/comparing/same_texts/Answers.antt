use Rattle.std.proofs.Common.{arith}
use Rattle.paged_world.proofs.Alongside.{no_iff, refuted}
use Rattle.paged_world.proofs.SideRows.{none_shown, shown_more, shown_at, as_rows, as_asked}
use Rattle.paged_world.proofs.comparing.same_texts.Goals as goal

pub loop-k-init : goal.loop-k-init
loop-k-init c = none_shown c.args.pooms.now c.args.others.now c.args.rows.now c.args.read.now

pub returns-then-not-branch : goal.returns-then-not-branch
returns-then-not-branch c =
    no_iff (λ all. refuted c.in_ok-same_text.field-0 c.in_ok-same_text.ensures c.if-not-branch.true
    (as_asked c.args.pooms.now c.args.others.now c.arena.result.now c.arena-in-loop-k.result.now c.index-rows-k.result c.index-read-k.result c.root_of_row-root.result c.root_of_row-other.result c.arena.ensures c.arena-in-loop-k.ensures c.root_of_row-root.ensures c.root_of_row-other.ensures
    (shown_at c.args.pooms.now c.args.others.now c.args.rows.now c.args.read.now c.loop-k.k c.index-rows-k.result c.index-read-k.result c.loop-k-test.true (omega (arith, c.requires.long, c.loop-k-test.true)) c.index-rows-k.is c.index-read-k.is all)))

pub loop-k-preserved : goal.loop-k-preserved
loop-k-preserved c =
    shown_more c.args.pooms.now c.args.others.now c.args.rows.now c.args.read.now c.loop-k.k c.index-rows-k.result c.index-read-k.result c.loop-k-test.true (omega (arith, c.requires.long, c.loop-k-test.true)) c.index-rows-k.is c.index-read-k.is
    (as_rows c.args.pooms.now c.args.others.now c.arena.result.now c.arena-in-loop-k.result.now c.index-rows-k.result c.index-read-k.result c.root_of_row-root.result c.root_of_row-other.result c.arena.ensures c.arena-in-loop-k.ensures c.root_of_row-root.ensures c.root_of_row-other.ensures
    (c.in_ok-same_text.ensures.0 c.if-not-branch.false)) c.loop-k.invariant

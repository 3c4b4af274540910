use Rattle.std.proofs.Common.{refl, arith}
use Rattle.paged_world.specs.inside.Same.{without_root}
use Rattle.paged_world.proofs.Alongside.{yes_iff, no_iff, refuted, along_differ, along_more, along_all, as_long}
use Rattle.paged_world.proofs.comparing.same_documents.Goals as goal

pub returns-then-one-other : goal.returns-then-one-other
returns-then-one-other c = no_iff (λ e. c.if-one-other.true (as_long without_root c.args.one.now c.args.other.now e))

pub loop-k-init : goal.loop-k-init
loop-k-init c = refl

pub returns-then-not-same_row : goal.returns-then-not-same_row
returns-then-not-same_row c =
    no_iff (along_differ without_root c.args.one.now c.args.other.now c.loop-k.k c.index-one-k.result c.index-other-k.result c.loop-k-test.true (omega arith) c.index-one-k.is c.index-other-k.is (refuted c.same_row.result c.same_row.ensures c.if-not-same_row.true))

pub loop-k-preserved : goal.loop-k-preserved
loop-k-preserved c =
    along_more without_root c.args.one.now c.args.other.now c.loop-k.k c.index-one-k.result c.index-other-k.result c.loop-k-test.true (omega arith) c.index-one-k.is c.index-other-k.is (c.same_row.ensures.0 c.if-not-same_row.false) c.loop-k.invariant

pub returns : goal.returns
returns c = yes_iff (along_all without_root c.args.one.now c.args.other.now c.loop-k.k c.loop-k-test.false (omega arith) c.loop-k.invariant)

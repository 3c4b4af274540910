use Rattle.std.proofs.Common.{refl, arith}
use Rattle.page_tables.specs.Plain.{plain_link}
use Rattle.paged_world.proofs.Alongside.{yes_iff, no_iff, refuted, along_differ, along_more, along_all, as_long}
use Rattle.paged_world.proofs.comparing.same_links.Goals as goal

pub returns-then-one-other : goal.returns-then-one-other
returns-then-one-other c = no_iff (λ e. c.if-one-other.true (as_long plain_link c.args.one.now c.args.other.now e))

pub loop-k-init : goal.loop-k-init
loop-k-init c = refl

pub returns-then-not-same_link : goal.returns-then-not-same_link
returns-then-not-same_link c =
    no_iff (along_differ plain_link c.args.one.now c.args.other.now c.loop-k.k c.index-one-k.result c.index-other-k.result c.loop-k-test.true (omega arith) c.index-one-k.is c.index-other-k.is (refuted c.same_link.result c.same_link.ensures c.if-not-same_link.true))

pub loop-k-preserved : goal.loop-k-preserved
loop-k-preserved c =
    along_more plain_link c.args.one.now c.args.other.now c.loop-k.k c.index-one-k.result c.index-other-k.result c.loop-k-test.true (omega arith) c.index-one-k.is c.index-other-k.is (c.same_link.ensures.0 c.if-not-same_link.false) c.loop-k.invariant

pub returns : goal.returns
returns c = yes_iff (along_all plain_link c.args.one.now c.args.other.now c.loop-k.k c.loop-k-test.false (omega arith) c.loop-k.invariant)

use Rattle.tumbler.specs.Places.{IsTumbler}
use Rattle.febe_data.proofs.Valid.{more, whole}
use Rattle.febe_data.proofs.validity.are_tumblers.Goals as goal

pub loop-tumbler-preserved : goal.loop-tumbler-preserved
loop-tumbler-preserved c =
    more IsTumbler c.args.tumblers.now c.loop-tumbler.tumbler-index c.tumbler-item.result c.loop-tumbler-test.true c.tumbler-item.is (c.is_tumbler.ensures.0 c.if-not-is_tumbler.false)
    c.loop-tumbler.invariant

pub returns : goal.returns
returns c = whole IsTumbler c.args.tumblers.now c.loop-tumbler.tumbler-index c.loop-tumbler-test.false c.loop-tumbler.invariant

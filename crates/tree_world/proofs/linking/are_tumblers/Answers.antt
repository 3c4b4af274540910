use Rattle.tumbler.specs.Places.{IsTumbler}
use Rattle.tree_world.proofs.Lists.{more_of_all, all_of_all}
use Rattle.tree_world.proofs.linking.are_tumblers.Goals as goal

pub loop-tumbler-preserved : goal.loop-tumbler-preserved
loop-tumbler-preserved c = more_of_all IsTumbler c.args.tumblers.now c.loop-tumbler.tumbler-index c.tumbler-item.result c.loop-tumbler-test.true c.tumbler-item.is c.loop-tumbler.invariant c.places.ensures.tumbler

pub returns : goal.returns
returns c = all_of_all IsTumbler c.args.tumblers.now c.loop-tumbler.tumbler-index c.loop-tumbler-test.false c.loop-tumbler.invariant

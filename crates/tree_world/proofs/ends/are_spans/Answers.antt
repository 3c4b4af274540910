use Rattle.febe_data.specs.Validity.{IsSpan}
use Rattle.tree_world.proofs.Lists.{more_of_all, all_of_all}
use Rattle.tree_world.proofs.ends.are_spans.Goals as goal

pub loop-span-preserved : goal.loop-span-preserved
loop-span-preserved c =
    more_of_all IsSpan c.args.spans.now c.loop-span.span-index c.span-item.result c.loop-span-test.true c.span-item.is c.loop-span.invariant (record { start = c.places.ensures.tumbler; width = c.places-in-loop-span.ensures.tumbler })

pub returns : goal.returns
returns c = all_of_all IsSpan c.args.spans.now c.loop-span.span-index c.loop-span-test.false c.loop-span.invariant

use Rattle.tumbler.specs.Span.{SpanFits}
use Rattle.tree_world.proofs.Lists.{more_of_all, all_of_all}
use Rattle.tree_world.proofs.linking.all_fit.Goals as goal

pub loop-span-preserved : goal.loop-span-preserved
loop-span-preserved c = more_of_all SpanFits c.args.spans.now c.loop-span.span-index c.span-item.result c.loop-span-test.true c.span-item.is c.loop-span.invariant (c.fits.ensures.0 c.if-not-fits.false)

pub returns : goal.returns
returns c fit = all_of_all SpanFits c.args.spans.now c.loop-span.span-index c.loop-span-test.false c.loop-span.invariant

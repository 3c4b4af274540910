use Rattle.entry_fits.proofs.Picked.{one_more_span, all_spans}
use Rattle.entry_fits.proofs.picking.spans_fit.Goals as goal

pub loop-span-preserved : goal.loop-span-preserved
loop-span-preserved c = one_more_span c.args.spans.now c.loop-span.span-index c.span-item.result c.loop-span-test.true c.span-item.is (c.fits.ensures.0 c.if-not-fits.false) c.loop-span.invariant

pub returns : goal.returns
returns c = all_spans c.args.spans.now c.loop-span.span-index c.loop-span-test.false c.loop-span.invariant

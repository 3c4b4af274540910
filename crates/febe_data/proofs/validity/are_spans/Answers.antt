use Rattle.febe_data.specs.Validity.{IsSpan}
use Rattle.febe_data.proofs.Valid.{more, whole}
use Rattle.febe_data.proofs.validity.are_spans.Goals as goal

pub loop-span-preserved : goal.loop-span-preserved
loop-span-preserved c = more IsSpan c.args.spans.now c.loop-span.span-index c.span-item.result c.loop-span-test.true c.span-item.is (c.is_span.ensures.0 c.if-not-is_span.false) c.loop-span.invariant

pub returns : goal.returns
returns c = whole IsSpan c.args.spans.now c.loop-span.span-index c.loop-span-test.false c.loop-span.invariant

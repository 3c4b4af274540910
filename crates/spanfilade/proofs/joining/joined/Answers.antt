use Rattle.spanfilade.proofs.AsOne.{sorted_fits, met_more, met_all}
use Rattle.spanfilade.proofs.ApartSpans.{joined_here, joined_on}
use Rattle.spanfilade.proofs.joining.joined.Goals as goal

pub push_joined-requires-clause-made : goal.push_joined-requires-clause-made
push_joined-requires-clause-made c =
    joined_here c.in_ok-sorted.sorted.items c.as_slice-span-items.result.now c.loop-span.made.items c.loop-span.span-index c.span-item.result c.as_slice-span-items.ensures.value c.in_ok-sorted.ensures.sorted c.loop-span-test.true c.span-item.is c.loop-span.invariant.0

pub push_joined-requires-clause-span : goal.push_joined-requires-clause-span
push_joined-requires-clause-span c =
    sorted_fits c.args.spans.now c.in_ok-sorted.sorted.items c.as_slice-span-items.result.now c.loop-span.span-index c.span-item.result c.in_ok-sorted.ensures.moved c.as_slice-span-items.ensures.value c.requires c.loop-span-test.true c.span-item.is

pub loop-span-preserved : goal.loop-span-preserved
loop-span-preserved c = (
  joined_on c.as_slice-span-items.result.now c.push_joined.new.made.items c.loop-span.span-index c.span-item.result c.loop-span-test.true c.span-item.is c.in_ok-push_joined.ensures.joined,
  met_more c.as_slice-span-items.result.now c.loop-span.made.items c.push_joined.new.made.items c.loop-span.span-index c.span-item.result c.loop-span-test.true c.span-item.is c.loop-span.invariant.1 c.in_ok-push_joined.ensures.met,
)

pub returns-clause-met : goal.returns-clause-met
returns-clause-met c =
    met_all c.args.spans.now c.in_ok-sorted.sorted.items c.as_slice-span-items.result.now c.loop-span.made.items c.loop-span.span-index c.in_ok-sorted.ensures.moved c.as_slice-span-items.ensures.value c.loop-span-test.false c.loop-span.invariant.1

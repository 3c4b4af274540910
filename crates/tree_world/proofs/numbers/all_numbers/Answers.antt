use Rattle.std.proofs.Common.{All, List, ap, sym, subst}
use Rattle.std.proofs.lemmas.List.Elements.{All-nil}
use Rattle.poom_compare.specs.declared.positions.Interval.{Interval}
use Rattle.poom_compare.specs.Placed.{is_in_some, IsInterval}
use Rattle.tree_world.proofs.Lists.{pushed_right}
use Rattle.tree_world.proofs.ByContent.{named_more, named_all}
use Rattle.tree_world.proofs.numbers.all_numbers.Goals as goal

pub loop-span-init : goal.loop-span-init
loop-span-init c = (subst (All (IsInterval 4294967295)) (sym c.new-made.ensures.items) (All-nil (IsInterval 4294967295)), λ m. ap (λ (l : List Interval). is_in_some l m) c.new-made.ensures.items)

pub loop-span-preserved : goal.loop-span-preserved
loop-span-preserved c = (
  pushed_right (IsInterval 4294967295) c.loop-span.made.items c.push.new.self.items c.in_ok-numbers_of.field-0 c.in_ok-push.ensures.items c.loop-span.invariant.0 c.in_ok-numbers_of.ensures.right,
  λ m.
      named_more c.args.spans.now c.loop-span.span-index c.span-item.result c.in_ok-numbers_of.field-0 c.loop-span.made.items c.push.new.self.items m c.loop-span-test.true c.span-item.is (c.loop-span.invariant.1 m) c.in_ok-push.ensures.items (c.in_ok-numbers_of.ensures.same m),
)

pub returns : goal.returns
returns c = record { each = c.loop-span.invariant.0; same = λ m. named_all c.args.spans.now c.loop-span.span-index c.loop-span.made.items m c.loop-span-test.false (c.loop-span.invariant.1 m) }

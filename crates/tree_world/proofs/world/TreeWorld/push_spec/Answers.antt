use Rattle.std.proofs.Common.{map, refl}
use Rattle.febe_data.specs.Plain.{plain_item}
use Rattle.tree_world.specs.inside.Seen.{items_picked}
use Rattle.tree_world.proofs.Steps.{more_at}
use Rattle.tree_world.proofs.world.TreeWorld.push_spec.Goals as goal

pub loop-span-preserved : goal.loop-span-preserved
loop-span-preserved c = (
  more_at (items_picked c.args.self.now c.args.spec.now.document) c.args.spec.now.spans.items c.as_slice-span-items.result.now c.loop-span.span-index c.span-item.result (map plain_item c.args.items.now.items) (map plain_item c.loop-span.items.items)
      (map plain_item c.push_span.new.items.items) (items_picked c.args.self.now c.args.spec.now.document c.span-item.result) c.as_slice-span-items.ensures c.loop-span-test.true c.span-item.is refl c.in_ok-push_span.ensures.items c.loop-span.invariant.0,
  λ all. c.in_ok-push_span.ensures.valid (c.loop-span.invariant.1 all),
)

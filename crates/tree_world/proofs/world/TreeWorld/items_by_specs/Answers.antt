use Rattle.std.proofs.Common.{map, refl}
use Rattle.febe_data.specs.Plain.{plain_item, plain_spec}
use Rattle.tree_world.specs.inside.Seen.{items_by_spec}
use Rattle.tree_world.proofs.Steps.{spec_at}
use Rattle.tree_world.proofs.world.TreeWorld.items_by_specs.Goals as goal

pub loop-spec-preserved : goal.loop-spec-preserved
loop-spec-preserved c = (
  spec_at (items_by_spec c.args.self.now) c.args.specs.now c.loop-spec.spec-index c.spec-item.result (map plain_item c.loop-spec.items.items) (map plain_item c.push_spec.new.items.items) (items_by_spec c.args.self.now (plain_spec c.spec-item.result))
      c.loop-spec-test.true c.spec-item.is refl c.in_ok-push_spec.ensures.items c.loop-spec.invariant.0,
  c.in_ok-push_spec.ensures.valid c.loop-spec.invariant.1,
)

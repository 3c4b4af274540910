use Rattle.world_rules.specs.Picking.{picked_by_spec}
use Rattle.flat_world.specs.inside.ByteIndex.{HasByteAt}
use Rattle.flat_world.proofs.ByteIndexes.{all_at_spec}
use Rattle.flat_world.proofs.flat.FlatWorld.push_specs.Goals as goal

pub push_spec-requires-clause-indexed : goal.push_spec-requires-clause-indexed
push_spec-requires-clause-indexed c =
    all_at_spec (HasByteAt c.args.self.now.world.bytes c.args.index.now) (picked_by_spec c.args.self.now.world) c.args.specs.now c.loop-spec.spec-index c.spec-item.result
    c.loop-spec-test.true c.spec-item.is c.requires.indexed

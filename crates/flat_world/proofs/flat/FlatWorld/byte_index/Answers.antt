use Rattle.std.proofs.Common.{◌≡◌, rules, arith, map}
use Rattle.std.proofs.lemmas.List.Elements.{All-weaker}
use Rattle.febe_data.specs.Plain.{plain_spec}
use Rattle.world_rules.specs.Picking.{picked_addresses, picked_by_spec}
use Rattle.flat_world.specs.inside.ByteIndex.{IsWanted, HasByteAt, WantsMore, FindsBytes}
use Rattle.flat_world.proofs.ByteIndexes.{wants_at_spec, wants_all}
use Rattle.flat_world.proofs.flat.FlatWorld.byte_index.Goals as goal

pub loop-spec-preserved : goal.loop-spec-preserved
loop-spec-preserved c =
    wants_at_spec (picked_by_spec c.args.self.now.world) c.args.specs.now c.loop-spec.spec-index c.spec-item.result c.new-index.result c.loop-spec.index c.want_spec.new.index
    c.loop-spec-test.true c.spec-item.is c.loop-spec.invariant c.in_ok-want_spec.ensures

pub returns : goal.returns
returns c =
    let world = c.args.self.now.world in
    let specs = c.args.specs.now in
    let wanted : WantsMore (picked_addresses world (map plain_spec specs)) c.new-index.result c.loop-spec.index =
    wants_all (λ ss. picked_addresses world (map plain_spec ss)) specs c.loop-spec.spec-index c.new-index.result c.loop-spec.index (omega arith) c.loop-spec.invariant in
    let bytes : c.as_slice.result.now ≡ world.bytes = search rules in
    let found : FindsBytes world.bytes c.loop-spec.index c.find_bytes.new.index = rw bytes at c.find_bytes.ensures in
    All-weaker (IsWanted c.loop-spec.index) (HasByteAt world.bytes c.find_bytes.new.index) found (picked_addresses world (map plain_spec specs)) wanted.added

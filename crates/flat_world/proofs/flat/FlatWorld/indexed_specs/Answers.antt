use Rattle.std.proofs.Common.{◌∙◌, ap, sym, take, ◌+◌}
use Rattle.std.proofs.lemmas.Simd.{map-map}
use Rattle.febe_data.specs.declared.spec.Spec.{Spec}
use Rattle.febe_data.specs.Plain.{plain_spec}
use Rattle.flat_rows.specs.EndIndex.{indexed_of}
use Rattle.flat_world.proofs.Endings.{specs_more, specs_valid}
use Rattle.flat_world.proofs.flat.FlatWorld.indexed_specs.Goals as goal

pub loop-spec-preserved : goal.loop-spec-preserved
loop-spec-preserved c =
    let set_of = indexed_of c.args.self.now.world c.args.index.now in
    let index = c.loop-spec.spec-index in
    record {
      value =
          specs_more (λ (spec : Spec). set_of (plain_spec spec)) c.args.specs.now index c.spec-item.result c.loop-spec.made.items c.push.new.self.items c.in_ok-indexed_of.field-0 c.loop-spec-test.true
          c.in_ok-push.ensures.ok (c.in_ok-indexed_of.ensures.value ∙ ap (λ (spec : Spec). set_of (plain_spec spec)) c.spec-item.is) (c.loop-spec.invariant.value ∙ map-map set_of plain_spec (take index c.args.specs.now))
          ∙ sym (map-map set_of plain_spec (take (index + 1) c.args.specs.now));
      valid = specs_valid c.loop-spec.made.items c.push.new.self.items c.in_ok-indexed_of.field-0 c.in_ok-push.ensures.ok c.in_ok-indexed_of.ensures.valid c.loop-spec.invariant.valid;
    }

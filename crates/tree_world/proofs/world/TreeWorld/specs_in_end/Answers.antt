use Rattle.std.proofs.Common.{◌∙◌, sym}
use Rattle.std.proofs.lemmas.Simd.{map-map}
use Rattle.febe_data.specs.Plain.{plain_spec}
use Rattle.febe_data.specs.declared.spec.Spec.{Spec}
use Rattle.world_rules.specs.Ends.{end_set_of, NamesSpans}
use Rattle.tree_world.proofs.Lists.{both_mapped_more, mapped_all, pushed_right_mapped}
use Rattle.tree_world.proofs.world.TreeWorld.specs_in_end.Goals as goal

pub loop-spec-preserved : goal.loop-spec-preserved
loop-spec-preserved c = (
  λ view stands.
      both_mapped_more plain_spec (λ (spec : Spec). end_set_of view.world c.args.session c.args.end (plain_spec spec)) c.args.specs.now c.loop-spec.spec-index c.spec-item.result c.in_ok-end_set_of.field-0 c.loop-spec.made.items c.push.new.self.items c.loop-spec-test.true c.spec-item.is
      (c.loop-spec.invariant.0 view stands) c.in_ok-push.ensures.ok (c.in_ok-end_set_of.ensures.value view c.args.session stands (c.account_of_session-account.ensures view stands)),
  pushed_right_mapped NamesSpans plain_spec c.loop-spec.made.items c.push.new.self.items c.in_ok-end_set_of.field-0 c.in_ok-push.ensures.ok c.loop-spec.invariant.1 c.in_ok-end_set_of.ensures.valid,
)

pub returns : goal.returns
returns c = record {
  value = λ view stands.
      mapped_all (λ (spec : Spec). end_set_of view.world c.args.session c.args.end (plain_spec spec)) c.args.specs.now c.loop-spec.spec-index _ c.loop-spec-test.false (c.loop-spec.invariant.0 view stands)
      ∙ sym (map-map (end_set_of view.world c.args.session c.args.end) plain_spec c.args.specs.now);
  valid = c.loop-spec.invariant.1;
}

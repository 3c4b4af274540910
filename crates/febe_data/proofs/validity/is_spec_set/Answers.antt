use Rattle.febe_data.proofs.Valid.{specs_more, right_at}
use Rattle.febe_data.proofs.validity.is_spec_set.Goals as goal

pub returns-then-not-is_spec : goal.returns-then-not-is_spec
returns-then-not-is_spec c = (
  (λ no. absurd cc),
  (λ set. absurd (cc (c.is_spec.ensures.1 (right_at c.args.specs.now c.loop-spec.spec-index c.spec-item.result c.loop-spec-test.true c.spec-item.is set)))),
)

pub loop-spec-preserved : goal.loop-spec-preserved
loop-spec-preserved c =
    specs_more c.args.specs.now c.loop-spec.spec-index c.spec-item.result c.loop-spec.spans c.len-spans.result c.loop-spec-test.true c.spec-item.is (c.is_spec.ensures.0 c.if-not-is_spec.false)
    c.len-spans.ensures c.loop-spec.invariant.each c.loop-spec.invariant.spans_are c.loop-spec.invariant.bound

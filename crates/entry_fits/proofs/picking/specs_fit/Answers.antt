use Rattle.entry_fits.proofs.Picked.{all_specs, one_more, not_there, bad_spans}
use Rattle.entry_fits.proofs.picking.specs_fit.Goals as goal

pub returns-then-not-has_document : goal.returns-then-not-has_document
returns-then-not-has_document g c view stands =
    not_there view.world c.args.specs.now c.loop-spec.spec-index c.spec-item.result c.loop-spec-test.true c.spec-item.is c.has_document.result (c.has_document.ensures view stands) c.if-not-has_document.true

pub returns-then-not-spans_fit : goal.returns-then-not-spans_fit
returns-then-not-spans_fit g c view stands =
    bad_spans view.world c.args.specs.now c.loop-spec.spec-index c.spec-item.result c.loop-spec-test.true c.spec-item.is c.spans_fit.result c.as_slice.result.now c.as_slice.ensures c.spans_fit.ensures c.if-not-spans_fit.true

pub loop-spec-preserved : goal.loop-spec-preserved
loop-spec-preserved g c view stands =
    one_more view.world c.args.specs.now c.loop-spec.spec-index c.spec-item.result c.loop-spec-test.true c.spec-item.is c.has_document.result (c.has_document.ensures view stands) c.if-not-has_document.false
    c.as_slice.result.now c.as_slice.ensures (c.spans_fit.ensures.0 c.if-not-spans_fit.false) (c.loop-spec.invariant view stands)

pub returns : goal.returns
returns g c view stands = all_specs view.world c.args.specs.now c.loop-spec.spec-index c.loop-spec-test.false (c.loop-spec.invariant view stands)

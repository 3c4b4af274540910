use Rattle.std.proofs.Common.{◌∙◌, All, ap, map, subst, sym}
use Rattle.febe_data.specs.Plain.{plain_request}
use Rattle.febe_data.specs.Validity.{IsRequest}
use Rattle.febe_data.specs.declared.request.Request.{Request}
use Rattle.green_top.proofs.Generateds.{spelled_more, whole_input}
use Rattle.green_top.proofs.generate.input_of.Goals as goal

pub loop-request-preserved : goal.loop-request-preserved
loop-request-preserved c =
    spelled_more c.as_slice-request-items.result.now c.loop-request.request-index c.request-item.result c.loop-request.input.items c.as_slice.result.now c.extend_from_slice.new.self.items
    c.loop-request-test.true c.request-item.is c.loop-request.invariant (c.as_slice.ensures ∙ c.in_ok-spelled.ensures) c.in_ok-extend_from_slice.ensures.ok

pub returns : goal.returns
returns c =
    let is = c.as_slice-request-items.ensures in
    whole_input c.args.start c.as_slice-request-items.result.now c.loop-request.request-index c.loop-request.input.items (ap (map plain_request) is ∙ c.in_ok-requests.ensures.value)
    (subst (All (λ (r : Request). IsRequest (plain_request r))) (sym is) c.in_ok-requests.ensures.valid) c.loop-request-test.false c.loop-request.invariant

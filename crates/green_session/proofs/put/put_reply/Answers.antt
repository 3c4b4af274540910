use Rattle.std.proofs.Common.{◌++◌, ◌∙◌, List, ℕ, ap}
use Rattle.green_session.proofs.Parts.{put_both, put_head}
use Rattle.green_session.proofs.put.put_reply.Goals as goal

pub returns-in-Done : goal.returns-in-Done
returns-in-Done g c = record {
  put =
      put_both _ _ _ _ _ _ c.as_slice.result.now c.in-Ok.parts.text.now _ c.put_bytes.result c.put_bytes-in-Done.result c.in-Done.is (ap (λ (xs : List ℕ). xs ++ c.in-Ok.parts.text.now) c.as_slice.ensures ∙ c.in-Ok.ensures) c.put_bytes.ensures.put
      c.put_bytes-in-Done.ensures.put c.put_bytes-in-Done.ensures.no_memory;
}

pub returns : goal.returns
returns g c = record {
  put =
      put_head _ _ _ _ c.as_slice.result.now c.in-Ok.parts.text.now _ c.put_bytes.result (ap (λ (xs : List ℕ). xs ++ c.in-Ok.parts.text.now) c.as_slice.ensures ∙ c.in-Ok.ensures) c.put_bytes.ensures.put c.in_default-put_bytes.not-Done
      c.put_bytes.ensures.no_memory;
}

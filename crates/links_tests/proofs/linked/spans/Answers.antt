use Rattle.std.proofs.Common.{◌≡◌, ◌++◌, ◌∷◌, [], subst}
use Rattle.std.specs.Prelude.{OnOk}
use Rattle.links.proofs.Trials.{spans_more}
use Rattle.links_tests.proofs.linked.spans.Goals as goal

pub loop-bytes-preserved : goal.loop-bytes-preserved
loop-bytes-preserved g c =
    spans_more c.loop-bytes.made.items c.push.new.self.items c.span.result
    (subst (λ r. OnOk r (c.push.new.self.items ≡ c.loop-bytes.made.items ++ c.span.result ∷ [])) c.expect.ensures c.push.ensures.ok)
    c.loop-bytes.invariant
    c.span.ensures

use Rattle.std.proofs.Common.{◌≡◌, ◌++◌, ◌∷◌, [], subst}
use Rattle.std.specs.Prelude.{OnOk}
use Rattle.links.proofs.Trials.{spans_more}
use Rattle.links_tests.proofs.linked.random.spans.Goals as goal

pub loop-part-preserved : goal.loop-part-preserved
loop-part-preserved g c =
    spans_more c.loop-part.made.items c.push.new.self.items c.span.result
    (subst (λ r. OnOk r (c.push.new.self.items ≡ c.loop-part.made.items ++ c.span.result ∷ [])) c.expect.ensures c.push.ensures.ok)
    c.loop-part.invariant
    c.span.ensures

use Rattle.std.proofs.Common.{◌≡◌, ◌++◌, ◌∷◌, [], subst}
use Rattle.std.specs.Prelude.{OnOk}
use Rattle.links.proofs.Trials.{spans_more}
use Rattle.links_tests.proofs.linked.homes.Goals as goal

pub loop-number-preserved : goal.loop-number-preserved
loop-number-preserved g c =
    spans_more c.loop-number.made.items c.push.new.self.items c.home.result
    (subst (λ r. OnOk r (c.push.new.self.items ≡ c.loop-number.made.items ++ c.home.result ∷ [])) c.expect.ensures c.push.ensures.ok)
    c.loop-number.invariant
    c.home.ensures

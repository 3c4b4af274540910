use Rattle.std.proofs.Common.{◌≡◌, ◌++◌, ◌∷◌, [], subst}
use Rattle.std.specs.Prelude.{OnOk}
use Rattle.links.proofs.Trials.{runs_more}
use Rattle.links_tests.proofs.linked.random.runs.Goals as goal

pub loop-part-preserved : goal.loop-part-preserved
loop-part-preserved g c =
    runs_more c.loop-part.made.items c.push.new.self.items c.run.result
    (subst (λ r. OnOk r (c.push.new.self.items ≡ c.loop-part.made.items ++ c.run.result ∷ [])) c.expect.ensures c.push.ensures.ok)
    c.loop-part.invariant
    record { content = c.run.ensures.content; counted = c.run.ensures.counted; some = c.run.ensures.some; small = c.run.ensures.small }

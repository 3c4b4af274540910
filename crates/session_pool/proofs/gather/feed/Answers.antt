use Rattle.std.proofs.Common.{◌∙◌}
use Rattle.session_pool.proofs.Standings.{stands_same}
use Rattle.session_pool.proofs.gather.feed.Goals as goal

pub loop-preserved : goal.loop-preserved
loop-preserved g c =
    let own = c.send_or_serve-own.ensures in
    (own.placed, own.parts ∙ c.loop.invariant.1, λ v s. own.one _ _ c.in-Some-next_given.ensures.given.0 v (c.loop.invariant.2 v s))

pub returns-in-None-next_given-clause-all : goal.returns-in-None-next_given-clause-all
returns-in-None-next_given-clause-all g c v s = stands_same g.L.IssuePasses.owner v _ _ _ _ _ c.in-None-next_given.ensures.given (c.loop.invariant.2 v s)

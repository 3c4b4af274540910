use Rattle.session_pool.proofs.Standings.{pooled_by_another}
use Rattle.session_pool.proofs.pool.run_pool.Goals as goal

pub returns-clause-pooled : goal.returns-clause-pooled
returns-clause-pooled g c = pooled_by_another g.L.IssuePasses.owner _ _ _ _ _ _ _ c.another.ensures.same.1 c.another.ensures.made.1 c.pool-own_pass.ensures.pooled c.end.ensures.taken_in

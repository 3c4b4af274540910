use Rattle.session_pool.proofs.Standings.{pooled_none, pooled_one, pooled_same}
use Rattle.session_pool.proofs.pool.serve_all.Goals as goal

pub loop-init : goal.loop-init
loop-init g c = (c.requires.lock, pooled_none g.L.IssuePasses.owner _ _ _ c.requires.given c.tally-tally.ensures)

pub loop-preserved : goal.loop-preserved
loop-preserved g c = let one = c.serve_one.ensures.served in
    (c.serve_one.ensures.same_lock, pooled_one g.L.IssuePasses.owner _ _ _ _ _ _ _ _ c.loop.invariant.1 c.in-Some-next_given.ensures.given.0 one.1 c.serve_one.ensures.counted)

pub returns-in-None-next_given-clause-pooled : goal.returns-in-None-next_given-clause-pooled
returns-in-None-next_given-clause-pooled g c = pooled_same g.L.IssuePasses.owner _ _ _ _ _ c.in-None-next_given.ensures.given c.loop.invariant.1

use Rattle.session_pool.proofs.Standings.{worked_one}
use Rattle.session_pool.proofs.work.work.Goals as goal

pub loop-preserved : goal.loop-preserved
loop-preserved g c =
    let one = c.serve_one.ensures.served in
    (c.serve_one.ensures.same_lock, c.in-Some-next_job.ensures.channel, worked_one g.L.IssuePasses.owner _ _ _ _ _ _ _ c.loop.invariant.2 one.1 c.serve_one.ensures.counted c.in-Some-next_job.ensures.taken)

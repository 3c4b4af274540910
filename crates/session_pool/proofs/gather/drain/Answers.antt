use Rattle.std.proofs.Common.{ap, ◌∙◌}
use Rattle.session_pool.proofs.Standings.{stands_taken, stands_hand}
use Rattle.session_pool.proofs.gather.drain.Goals as goal

pub loop-preserved : goal.loop-preserved
loop-preserved g c =
    let one = c.serve_one.ensures.served in let taken = c.in-Some-left_over.ensures.taken in (
      c.serve_one.ensures.same_lock,
      c.in-Some-left_over.ensures.channel,
      ap (λ h. h.parts) taken ∙ c.loop.invariant.2,
      λ given v s. stands_taken g.L.IssuePasses.owner v _ _ one.0 given _ _ _ _ (c.loop.invariant.3 given v s) taken one.1 c.serve_one.ensures.counted,
    )

pub returns-in-None-left_over-clause-all : goal.returns-in-None-left_over-clause-all
returns-in-None-left_over-clause-all g c given v s = stands_hand g.L.IssuePasses.owner v _ given _ _ _ c.in-None-left_over.ensures.taken.0 (c.loop.invariant.3 given v s)

use Rattle.std.proofs.Common.{[], inl, inr, refl}
use Rattle.green_top.proofs.EndedSessions.{greets, runs, runs_nothing, no_step}
use Rattle.green_top.proofs.session.serve.Goals as goal

pub returns-in-Err-clause-run : goal.returns-in-Err-clause-run
returns-in-Err-clause-run g c = ([], runs_nothing _ _ c.requires.unnumbered _ _ _ _ _ _ _ _ _ _ _ c.new-feed.ensures c.new-turns.ensures _ _ _ c.in-Err.end c.new-points.ensures.items c.taken-bytes_read.ensures c.in-Err.ensures.next, inl (record { none_answered = refl; no_step = no_step _ _ c.in-Err.end c.in-Err.ensures.next; first_stays = refl; second_stays = refl; coming_stays = refl }))

pub returns-clause-run : goal.returns-clause-run
returns-clause-run g c =
    let session = c.run_session-end.ensures.session in (
      session.0,
      runs _ _ c.requires.unnumbered _ _ _ _ _ _ _ _ _ _ _ c.new-feed.ensures c.new-turns.ensures _ _ _ session.0 _ _ _ _ _ _ _ (rw c.in-Ok-None.field-0-is at c.in-Ok-None.ensures.next) session.1 c.taken-bytes_read-2.ensures,
      inr session.2,
    )

pub run_session-end-requires-clause-greeted : goal.run_session-end-requires-clause-greeted
run_session-end-requires-clause-greeted g c =
    greets (g.P.PlaySession.limits c.args.first.now) (g.P.PlaySession.number c.args.first.now) c.requires.unnumbered _ _ _ _ _ _ _ _ _ _ _ c.new-feed.ensures c.new-turns.ensures _ _ (rw c.in-Ok-None.field-0-is at c.in-Ok-None.ensures.next)

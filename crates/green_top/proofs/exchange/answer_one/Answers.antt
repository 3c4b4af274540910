use Rattle.std.proofs.Common.{refl, inl, inr, []}
use Rattle.green_top.proofs.Rounds.{handled, asked_once, live_unless, not_quits}
use Rattle.green_top.proofs.exchange.answer_one.Goals as goal

pub returns-then-is_err-clause-answered : goal.returns-then-is_err-clause-answered
returns-then-is_err-clause-answered g c =
    ([], inr (record { memory = refl; no_exchange = refl; history_stays = refl; points_stay = c.reserve.ensures.items; sink_stays = refl; faults_stay = refl; disk_faults_stay = refl }), inl (refl, refl, refl, refl))

pub returns-clause-answered : goal.returns-clause-answered
returns-clause-answered g c =
    let asked = c.ask-reply.ensures in (
      _,
      handled _ _ _ _ _ _ _ _ _ _ _ _ _ _ asked.replied _ _ _ _ _ _ refl asked.valid asked.never_falls (rw (c.push_reserved.ensures.items, c.reserve.ensures.items) refl) c.put_reply-put.ensures.put,
      asked_once _ _ _ _ _ _ _ _ _ _ _ _ _ _ asked.replied,
    )

pub returns-clause-live : goal.returns-clause-live
returns-clause-live g c = live_unless _ _ _ _ _ _ _ _ _ _ _ _ _ _ c.ask-reply.ensures.replied _ c.is_quit-live.ensures _ c.ask-reply.ensures.number

pub returns-clause-stays : goal.returns-clause-stays
returns-clause-stays g c = not_quits _ _ c.is_quit-live.ensures

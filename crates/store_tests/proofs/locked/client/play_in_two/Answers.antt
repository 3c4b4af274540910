use Rattle.std.proofs.Common.{refl}
use Rattle.history_lock.specs.Passes.{known}
use Rattle.history_lock.specs.Laws.{Life, made, made_from, went_on, played, looked, took_in}
use Rattle.store_tests.proofs.locked.client.play_in_two.Goals as goal

pub returns : goal.returns
returns g c =
    let K = g.T.Kept in let begun = c.in-Ok.ensures.ok.1 in let cut = c.new_pass-second.ensures in let one = c.act.ensures.acted in let other = c.act-2.ensures.acted in
    let life : Life K.owner K.plays (K.history c.args.kept) (K.fixed c.args.kept) (known c.end_pass.new.into) =
    took_in (looked c.front.result (played one.0 5 c.act.result.answer c.act.result.point (went_on (made begun) cut.same.1) one.1) c.front.ensures.looked)
    (played other.0 7 c.act-2.result.answer c.act-2.result.point (made_from (made begun) cut.made.1) other.1) c.end_pass.ensures.taken_in in
    let left = c.in-Ok-into_inner.ensures in
    (known c.end_pass.new.into, life, refl, c.each_once_in_order.ensures (K.history c.args.kept) (K.fixed c.args.kept) (known c.end_pass.new.into) life (K.history c.in-Ok-into_inner.left) (K.fixed c.in-Ok-into_inner.left) left.ok left.apart)

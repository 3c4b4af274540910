use Rattle.std.proofs.Common.{refl}
use Rattle.green_top.proofs.BesideSteps.{legal_of, replied_here}
use Rattle.green_top.proofs.beside.BesidePlaySession.ask.Goals as goal

pub returns-clause-replied : goal.returns-clause-replied
returns-clause-replied g c =
    let t = c.in-Reply.ensures in
    let legal = legal_of _ _ _ _ _ _ t.step.given c.requires.valid in
    replied_here _ _ _ _ _ _ _ _ _ _ _ _ _ _ _ legal t.step.point_is
    (record {
      request = c.args.request;
      reply = c.in-Reply.reply;
      point = c.in-Reply.point;
      valid = c.requires.valid;
      stepped = record {
        moment = c.now-moment.result;
        next = c.now-moment.ensures;
        made = record { is_step = t.step; is_timed = t.moments; limits_stay = t.limits; any_moment = t.any_moment; keeps = t.keeps; never_falls = t.never_falls };
      };
      legal = legal;
      exchange_is = refl;
      number_stays = refl;
    })

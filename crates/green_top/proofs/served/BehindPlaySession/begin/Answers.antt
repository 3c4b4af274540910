use Rattle.std.proofs.Common.{rules}
use Rattle.history_lock.specs.Passes.{known}
use Rattle.green_store.specs.declared.housed.HouseJob.TheVariants as jobs
use Rattle.green_top.proofs.LockPlays.{at_both, begun_behind}
use Rattle.green_top.proofs.served.BehindPlaySession.begin.Goals as goal

pub returns-in-Begun-clause-begun : goal.returns-in-Begun-clause-begun
returns-in-Begun-clause-begun g c =
    let v = known c.args.first.now in
    let w = known c.act-answer.new.pass in
    let acted = at_both v w _ jobs.Begin c.act-answer.result.answer _ c.act-answer.result.point _ (search rules) c.in-Begun.is c.act-answer.ensures.acted.1 in
    begun_behind v w _ c.in-Begun.session c.act-answer.result.point _ acted _ _ (search rules)

use Rattle.std.proofs.Common.{rules}
use Rattle.history_lock.specs.Passes.{known}
use Rattle.green_store.specs.declared.housed.HouseJob.TheVariants as jobs
use Rattle.green_top.proofs.LockPlays.{at_job, ends_at, ended_behind}
use Rattle.green_top.proofs.served.BehindPlaySession.end.Goals as goal

pub returns-clause-ends : goal.returns-clause-ends
returns-clause-ends g c =
    let v = known c.args.first.now in
    let w = known c.act-ended.new.pass in
    ends_at v w _ c.act-ended.result.answer c.act-ended.result.point _ c.requires.live (at_job v w _ jobs.End c.act-ended.result.answer c.act-ended.result.point _ (search rules) c.act-ended.ensures.acted.1)

pub returns-clause-ended : goal.returns-clause-ended
returns-clause-ended g c =
    let v = known c.args.first.now in
    let w = known c.act-ended.new.pass in
    ended_behind v w _ c.act-ended.result.answer c.act-ended.result.point _ _ _ (search rules) c.requires.live (at_job v w _ jobs.End c.act-ended.result.answer c.act-ended.result.point _ (search rules) c.act-ended.ensures.acted.1)

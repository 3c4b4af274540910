use Rattle.std.proofs.Common.{rules}
use Rattle.history_lock.specs.Passes.{known}
use Rattle.green_store.specs.declared.housed.HouseJob.TheVariants as jobs
use Rattle.green_top.proofs.LockPlays.{at_job, at_both, has_replied, is_replied}
use Rattle.green_top.proofs.served.BehindPlaySession.ask.Goals as goal

pub unreachable-requires : goal.unreachable-requires
unreachable-requires g c =
    let v = known c.args.first.now in
    let w = known c.act-answer.new.pass in
    is_replied v w _ c.args.request c.act-answer.result.answer c.act-answer.result.point _ c.requires.live (at_job v w _ (jobs.Ask c.args.request) c.act-answer.result.answer c.act-answer.result.point _ (search rules) c.act-answer.ensures.acted.1) c.in_default.not-Reply

pub returns-clause-replied : goal.returns-clause-replied
returns-clause-replied g c =
    let v = known c.args.first.now in
    let w = known c.act-answer.new.pass in
    let acted = at_both v w _ (jobs.Ask c.args.request) c.act-answer.result.answer _ c.act-answer.result.point _ (search rules) c.in-Reply.is c.act-answer.ensures.acted.1 in
    has_replied v w _ c.args.request c.in-Reply.reply c.in-Reply.point c.act-answer.result.point _ acted c.requires.live c.requires.valid
    _ c.args.first.now c.args._second.now _ c.act-answer.new.pass c.args._second.now _ (search rules) (λ e told. told)

use Rattle.history_lock.specs.Passes.{known}
use Rattle.green_top.proofs.SatActs.{served_acts}
use Rattle.green_top.proofs.served.serve_session.Goals as goal

pub returns-clause-starts_with : goal.returns-clause-starts_with
returns-clause-starts_with g c =
    let run = c.serve-served.ensures.run in
    let both = served_acts (λ pass. known pass) c.serve-served.result.end c.args.pass.now _ _ run.0 c.serve-served.new.first _ _ run.2 in both.1.starts_with

pub returns-clause-fixed : goal.returns-clause-fixed
returns-clause-fixed g c =
    let run = c.serve-served.ensures.run in
    let both = served_acts (λ pass. known pass) c.serve-served.result.end c.args.pass.now _ _ run.0 c.serve-served.new.first _ _ run.2 in both.1.fixed_stays

pub returns-clause-served : goal.returns-clause-served
returns-clause-served g c =
    let run = c.serve-served.ensures.run in
    let both = served_acts (λ pass. known pass) c.serve-served.result.end c.args.pass.now _ _ run.0 c.serve-served.new.first _ _ run.2 in
    (run.0, c.serve-served.result.bytes_read, run.1, both.0)

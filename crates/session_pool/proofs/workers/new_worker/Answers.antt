use Rattle.session_pool.proofs.Balances.{forks}
use Rattle.session_pool.proofs.Standings.{worked_none, stands_cut}
use Rattle.session_pool.proofs.workers.new_worker.Goals as goal

pub another-seat-requires-clause-rule : goal.another-seat-requires-clause-rule
another-seat-requires-clause-rule g c = forks _ _ c.requires.parts

pub returns-clause-worked : goal.returns-clause-worked
returns-clause-worked g c = worked_none g.L.IssuePasses.owner _ (g.L.IssuePasses.knows c.args.own.now.pass) _ _ c.another-pass.ensures.made.1 c.tally-tally.ensures c.another-seat.ensures.rule.1

pub returns-clause-all : goal.returns-clause-all
returns-clause-all g c given v s = stands_cut g.L.IssuePasses.owner v _ _ given _ _ _ _ c.another-pass.ensures.same.1 c.another-seat.ensures.rule.0 s

use Rattle.session_pool.proofs.Standings.{stands_sent, stands_here}
use Rattle.session_pool.proofs.gather.send_or_serve.Goals as goal

pub returns-in-None-clause-one : goal.returns-in-None-clause-one
returns-in-None-clause-one g c given more is v s = stands_sent g.L.IssuePasses.owner v _ given more _ _ _ s is c.in-None.ensures.sent

pub returns-clause-one : goal.returns-clause-one
returns-clause-one g c given more is v s =
    let one = c.serve_one.ensures.served in
    stands_here g.L.IssuePasses.owner v _ _ one.0 given more _ _ _ _ s is c.in-Some.ensures.sent one.1 c.serve_one.ensures.counted

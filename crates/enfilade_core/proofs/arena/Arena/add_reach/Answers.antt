use Rattle.enfilade_core.proofs.ToldReach.{reaches-more}
use Rattle.enfilade_core.proofs.arena.Arena.add_reach.Goals as goal

pub returns-clause-ok : goal.returns-clause-ok
returns-clause-ok g c =
    reaches-more g.P.Plane.widths c.args.self.now c.args.node.0 c.args.reaches.now.items c.push.new.self.items c.last_reach-reach.result c.requires.last c.requires.before c.in_ok-push.ensures.ok
    record { first = c.last_reach-reach.ensures.first; second = c.last_reach-reach.ensures.second }

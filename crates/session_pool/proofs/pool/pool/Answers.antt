use Rattle.std.proofs.Common.{sym, subst, refl, rules}
use Rattle.crossbeam_channel.specs.Claims.{IsSeatAt}
use Rattle.session_pool.proofs.Standings.{stands_begun, stands_pooled, pooled_same}
use Rattle.session_pool.proofs.pool.pool.Goals as goal

pub drain-requires-clause-placed : goal.drain-requires-clause-placed
drain-requires-clause-placed g c =
    let own = c.run_workers-accept.ensures.placed in
    record { lock = own.lock; channel = subst (λ k. IsSeatAt k c.run_workers-accept.result.own.seat) (sym c.requires.ends) own.channel }

pub returns-clause-pooled : goal.returns-clause-pooled
returns-clause-pooled g c =
    let begun = stands_begun g.L.IssuePasses.owner (g.L.IssuePasses.knows c.args.own.pass) (g.L.IssuePasses.knows c.args.own.pass) _ _ _ refl c.requires.given c.requires.count c.requires.seat in
    let gone = c.run_workers-accept.ensures.all _ begun in
    let drained = c.drain.ensures.all _ _ gone in
    let pooled = stands_pooled g.L.IssuePasses.owner _ _ _ _ _ drained c.drain.ensures.even in
    pooled_same g.L.IssuePasses.owner _ _ _ _ _ (search rules) pooled

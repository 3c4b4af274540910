use Rattle.std.proofs.Common.{ap, ◌∙◌, subst}
use Rattle.crossbeam_channel.specs.Claims.{IsSeatAt}
use Rattle.crossbeam_channel.specs.Ends.{receives_on}
use Rattle.session_pool.proofs.workers.join_worker.Goals as goal

pub take_in-requires-clause-other : goal.take_in-requires-clause-other
take_in-requires-clause-other g c =
    let joined = c.join.ensures.0 in
    record {
      lock = subst (λ k. g.L.IssuePasses.is_of k c.join.result.pass) c.requires.handle.0 joined.lock;
      channel = subst (λ k. IsSeatAt k c.join.result.seat) (ap receives_on c.requires.handle.1 ∙ c.requires.ends) joined.channel;
    }

pub take_in-requires-clause-worked : goal.take_in-requires-clause-worked
take_in-requires-clause-worked g c = c.join.ensures.1

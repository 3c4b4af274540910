use Rattle.std.proofs.Common.{sym, subst}
use Rattle.crossbeam_channel.specs.Claims.{IsSeatAt}
use Rattle.session_pool.proofs.workers.+with_workers.Goals as goal

pub start_worker-requires-clause-placed : goal.start_worker-requires-clause-placed
start_worker-requires-clause-placed g t c _ _ =
    let new = c.new_worker-new.ensures.placed in
    record { lock = new.lock; channel = subst (λ k. IsSeatAt k c.new_worker-new.result.seat) (sym c.requires.ends) new.channel }

pub take_in-own-requires-clause-other : goal.take_in-own-requires-clause-other
take_in-own-requires-clause-other g t c =
    let back = c.in-Err.ensures.placed in
    record { lock = back.lock; channel = subst (λ k. IsSeatAt k c.in-Err.back.seat) c.requires.ends back.channel }

pub returns-in-Ok-clause-all : goal.returns-in-Ok-clause-all
returns-in-Ok-clause-all g t c v s = c.join_worker.ensures.all _ v (c.with_workers-own.ensures.all v (c.new_worker-new.ensures.all _ v s))

pub returns-in-Err-clause-all : goal.returns-in-Err-clause-all
returns-in-Err-clause-all g t c v s = c.feed_and_stop-in-Err.ensures.all v (c.take_in-own.ensures.all _ v (c.new_worker-new.ensures.all _ v s))

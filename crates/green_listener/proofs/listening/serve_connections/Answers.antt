use Rattle.green_store.specs.Marks.{owner_of}
use Rattle.green_listener.proofs.Counted.{by_count}
use Rattle.green_listener.proofs.listening.serve_connections.Goals as goal

pub returns : goal.returns
returns g c =
    let run = c.run_pool-tally.ensures in
    record { same_lock = run.same_lock; pooled = rw c.served.ensures (by_count owner_of _ _ _ _ run.pooled) }

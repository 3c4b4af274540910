use Rattle.session_pool.proofs.Balances.{puts, learns_nothing}
use Rattle.session_pool.proofs.gather.send_job.Goals as goal

pub send_as-requires-clause-rule : goal.send_as-requires-clause-rule
send_as-requires-clause-rule g c = (puts _ _ _ _ c.requires.part, learns_nothing _ _)

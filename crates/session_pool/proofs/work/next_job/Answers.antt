use Rattle.std.proofs.Common.{arith}
use Rattle.session_pool.proofs.Balances.{takes, learns}
use Rattle.session_pool.proofs.work.next_job.Goals as goal

pub recv_as-requires-clause-rule : goal.recv_as-requires-clause-rule
recv_as-requires-clause-rule g c = let p = c.requires.part in (takes _ _ (omega arith), learns _ _)

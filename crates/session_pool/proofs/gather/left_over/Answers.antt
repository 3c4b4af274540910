use Rattle.std.proofs.Common.{ap, ◌∙◌, arith}
use Rattle.session_pool.proofs.Balances.{takes, learns}
use Rattle.session_pool.proofs.gather.left_over.Goals as goal

pub try_recv_as-requires-clause-rule : goal.try_recv_as-requires-clause-rule
try_recv_as-requires-clause-rule g c =
    let parts = ap (λ h. h.parts) c.loop.invariant.1 ∙ c.requires.all in
    (takes _ _ (omega (arith, parts)), learns _ _)

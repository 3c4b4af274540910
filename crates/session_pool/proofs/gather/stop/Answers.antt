use Rattle.std.proofs.Common.{◌<◌, sym, ◌∙◌, subst}
use Rattle.session_pool.proofs.Balances.{puts, learns_nothing, still_same}
use Rattle.session_pool.proofs.gather.stop.Goals as goal

pub send_as-told-requires-clause-rule : goal.send_as-told-requires-clause-rule
send_as-told-requires-clause-rule g c = (puts _ _ _ _ (subst (λ u. 0 < u.parts) (sym c.loop.invariant.1) c.requires.part), learns_nothing _ _)

pub loop-preserved : goal.loop-preserved
loop-preserved g c = (c.send_as-told.ensures.channel.0, still_same _ _ _ _ c.send_as-told.ensures.rule ∙ c.loop.invariant.1)

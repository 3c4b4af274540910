use Rattle.std.proofs.Common.{◌∙◌, sym}
use Rattle.enfilade_core.specs.BalanceState.{balance_states}
use Rattle.enfilade_core.proofs.Merges.{merge-more}
use Rattle.enfilade_balance.proofs.finding.mergeable.Goals as goal

pub loop-k-preserved : goal.loop-k-preserved
loop-k-preserved g c =
    merge-more (balance_states c.args.arena.now) c.args.branches.now c.loop-k.k c.index-branches-k.result c.index-branches-k-in-loop-k.result c.balance_state-first.result c.balance_state-second.result
    record { some = c.loop-k.auto.k; short = c.loop-k-test.true; first = c.balance_state-first.ensures; second = c.balance_state-second.ensures } (sym c.may_merge.ensures ∙ c.if-may_merge.false) c.loop-k.invariant

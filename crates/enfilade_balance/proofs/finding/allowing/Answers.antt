use Rattle.std.proofs.Common.{◌<◌, length, arith}
use Rattle.enfilade_core.specs.BalanceState.{balance_states, balance_states_below}
use Rattle.enfilade_core.proofs.Merges.{length-below, allows-more}
use Rattle.enfilade_balance.proofs.Found.{below-item}
use Rattle.enfilade_balance.proofs.finding.allowing.Goals as goal

pub loop-k-preserved : goal.loop-k-preserved
loop-k-preserved g c =
    let told = balance_states c.args.arena.now in
    let at = below-item told c.args.branches.now c.loop-k.k c.index-branches-k.result c.balance_state-below.result c.loop-k-test.true c.balance_state-below.ensures in
    let lt : c.loop-k.k < length (balance_states_below told c.args.branches.now) = omega (arith, length-below told c.args.branches.now, c.loop-k-test.true) in
    allows-more (balance_states_below told c.args.branches.now) c.loop-k.k c.balance_state-below.result lt at c.loop-k.invariant c.if-below.false

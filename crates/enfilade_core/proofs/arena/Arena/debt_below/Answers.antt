use Rattle.std.proofs.Common.{◌<◌, ◌+◌, min, length, arith, ap, ◌∙◌}
use Rattle.std.specs.List.{sum_by}
use Rattle.std.proofs.lemmas.List.{take_all}
use Rattle.enfilade_core.specs.Summary.{most_count}
use Rattle.enfilade_core.specs.BalanceState.{balance_states, balance_states_below}
use Rattle.enfilade_core.proofs.GoneThrough.{item-well_formed}
use Rattle.enfilade_core.proofs.Merges.{below-at, length-below, debt-more}
use Rattle.enfilade_core.proofs.arena.Arena.debt_below.Goals as goal

pub balance_state-below-requires : goal.balance_state-below-requires
balance_state-below-requires g c = item-well_formed (λ branch. branch.node.0 < length c.args.self.now) c.args.branches.now c.loop-branch.branch-index c.branch-item.result c.loop-branch-test.true c.branch-item.is c.requires

pub loop-branch-preserved : goal.loop-branch-preserved
loop-branch-preserved g c =
    let told = balance_states c.args.self.now in
    let at = below-at told c.args.branches.now c.loop-branch.branch-index c.branch-item.result c.balance_state-below.result c.loop-branch-test.true c.branch-item.is c.balance_state-below.ensures in
    let lt : c.loop-branch.branch-index < length (balance_states_below told c.args.branches.now) = omega (arith, length-below told c.args.branches.now, c.loop-branch-test.true) in
    debt-more (balance_states_below told c.args.branches.now) c.loop-branch.branch-index c.args.owed c.loop-branch.debt c.saturating_add-debt.result c.balance_state-below.result lt at c.loop-branch.invariant c.saturating_add-debt.ensures

pub returns : goal.returns
returns g c =
    let below = balance_states_below (balance_states c.args.self.now) c.args.branches.now in
    c.loop-branch.invariant ∙ ap (λ xs. min (c.args.owed + sum_by (λ s. s.debt) xs) most_count) (take_all c.loop-branch.branch-index below (omega (arith, length-below (balance_states c.args.self.now) c.args.branches.now, c.loop-branch-test.false)))

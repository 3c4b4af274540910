use Rattle.std.proofs.Common.{◌<◌, length, arith, ap, ◌∙◌, sym}
use Rattle.std.specs.List.{list_any}
use Rattle.std.proofs.lemmas.List.{take_all}
use Rattle.enfilade_core.specs.BalanceState.{balance_states, balance_states_below}
use Rattle.enfilade_core.proofs.GoneThrough.{item-well_formed}
use Rattle.enfilade_core.proofs.Merges.{below-at, length-below, allows-more, allows-found}
use Rattle.enfilade_core.proofs.arena.Arena.allows_below.Goals as goal

pub balance_state-below-requires : goal.balance_state-below-requires
balance_state-below-requires g c = item-well_formed (λ branch. branch.node.0 < length c.args.self.now) c.args.branches.now c.loop-branch.branch-index c.branch-item.result c.loop-branch-test.true c.branch-item.is c.requires

pub returns-then-below : goal.returns-then-below
returns-then-below g c =
    let told = balance_states c.args.self.now in
    let at = below-at told c.args.branches.now c.loop-branch.branch-index c.branch-item.result c.balance_state-below.result c.loop-branch-test.true c.branch-item.is c.balance_state-below.ensures in
    let lt : c.loop-branch.branch-index < length (balance_states_below told c.args.branches.now) = omega (arith, length-below told c.args.branches.now, c.loop-branch-test.true) in
    sym (allows-found (balance_states_below told c.args.branches.now) c.loop-branch.branch-index c.balance_state-below.result lt at c.if-below.true)

pub loop-branch-preserved : goal.loop-branch-preserved
loop-branch-preserved g c =
    let told = balance_states c.args.self.now in
    let at = below-at told c.args.branches.now c.loop-branch.branch-index c.branch-item.result c.balance_state-below.result c.loop-branch-test.true c.branch-item.is c.balance_state-below.ensures in
    let lt : c.loop-branch.branch-index < length (balance_states_below told c.args.branches.now) = omega (arith, length-below told c.args.branches.now, c.loop-branch-test.true) in
    allows-more (balance_states_below told c.args.branches.now) c.loop-branch.branch-index c.balance_state-below.result lt at c.loop-branch.invariant c.if-below.false

pub returns : goal.returns
returns g c =
    let below = balance_states_below (balance_states c.args.self.now) c.args.branches.now in
    sym (ap (list_any (λ s. s.allows)) (sym (take_all c.loop-branch.branch-index below (omega (arith, length-below (balance_states c.args.self.now) c.args.branches.now, c.loop-branch-test.false)))) ∙ c.loop-branch.invariant)

use Rattle.std.proofs.Common.{◌≡◌, ◌∙◌}
use Rattle.std.proofs.lemmas.Result.{IfOk-weaker}
use Rattle.enfilade_core.specs.Rows.{Branches}
use Rattle.enfilade_core.specs.Exchange.{IsPacked}
use Rattle.enfilade_core.specs.Packing.{IsPlaced}
use Rattle.enfilade_core.proofs.PackedBranches.{are_past, branches-may_stand, branches-packed}
use Rattle.enfilade_core.specs.BalanceState.{balance_states, balance_state_below, balance_state_of}
use Rattle.enfilade_core.proofs.Stood.{branches-stand}
use Rattle.enfilade_core.proofs.arena.Arena.branches_packed.Goals as goal

pub placed-requires : goal.placed-requires
placed-requires g c =
    let first = c.first_least-first in
    let second = c.second_least-second in
    branches-may_stand g.P.Plane.widths g.met.P.Plane.widths_stay c.args.self.now c.allocator.ensures.well_formed first.result second.result first.ensures.tumbler second.ensures.tumbler c.args.branches.now c.in_ok-made.made.items
    (are_past first.result second.result c.args.branches.now first.ensures.up_to second.ensures.up_to) c.requires.well_formed c.requires.filled c.in_ok-made.ensures

pub returns-clause-packed : goal.returns-clause-packed
returns-clause-packed g c =
    let first = c.first_least-first in
    let second = c.second_least-second in
    let old = c.args.self.now in
    let new = c.placed.new.self in
    IfOk-weaker c.placed.result (IsPlaced g.P.Plane.widths old new (Branches c.in_ok-made.made.items) first.result second.result) (IsPacked g.P.Plane.widths old new (Branches c.args.branches.now)) (λ branch placed.
    branches-packed g.P.Plane.widths old new first.result second.result c.args.branches.now c.in_ok-made.made.items branch
    (are_past first.result second.result c.args.branches.now first.ensures.up_to second.ensures.up_to) c.in_ok-made.ensures placed) c.placed.ensures.placed

pub returns-clause-balance_state : goal.returns-clause-balance_state
returns-clause-balance_state g c =
    let told = balance_states c.args.self.now in
    let new = c.placed.new.self in
    IfOk-weaker c.placed.result (λ branch. balance_state_of new branch.node.0 ≡ balance_state_below told c.in_ok-made.made.items) (λ branch. balance_state_of new branch.node.0 ≡ balance_state_below told c.args.branches.now)
    (λ branch is. is ∙ branches-stand told c.first_least-first.result c.second_least-second.result c.args.branches.now c.in_ok-made.made.items c.in_ok-made.ensures) c.placed.ensures.balance_state

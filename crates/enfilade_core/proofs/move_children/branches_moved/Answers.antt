use Rattle.tumbler.specs.Places.{IsTumbler, sum}
use Rattle.tumbler.proofs.SumOrder.{fits_if_tumbler}
use Rattle.enfilade_core.proofs.GoneThrough.{item-well_formed}
use Rattle.enfilade_core.proofs.move_children.branches_moved.Goals as goal

pub branch_moved-requires-clause-first_fits : goal.branch_moved-requires-clause-first_fits
branch_moved-requires-clause-first_fits c =
    fits_if_tumbler c.args.first.now c.branch-item.result.first
    (item-well_formed (λ branch. IsTumbler (sum c.args.first.now branch.first)) c.args.branches.now c.loop-branch.branch-index c.branch-item.result c.loop-branch-test.true c.branch-item.is c.requires.first_origins)

pub branch_moved-requires-clause-second_fits : goal.branch_moved-requires-clause-second_fits
branch_moved-requires-clause-second_fits c =
    fits_if_tumbler c.args.second.now c.branch-item.result.second
    (item-well_formed (λ branch. IsTumbler (sum c.args.second.now branch.second)) c.args.branches.now c.loop-branch.branch-index c.branch-item.result c.loop-branch-test.true c.branch-item.is c.requires.second_origins)

use Rattle.std.proofs.Common.{◌*◌, ◌+◌}
use Rattle.enfilade_balance.proofs.path.+stepping.Given as goal

abbrev pub decreases-branch_stepped : goal.decreases-branch_stepped
decreases-branch_stepped g l = 2 * l.branch.now.node.0 + 1

abbrev pub decreases-branches_stepped : goal.decreases-branches_stepped
decreases-branches_stepped g l = 2 * l.below.0

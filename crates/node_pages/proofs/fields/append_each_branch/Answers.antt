use Rattle.node_pages.specs.NodeBytes.{branch_bytes, IsBranch}
use Rattle.disk_fields.proofs.Written.{none_written, more_written}
use Rattle.node_pages.proofs.fields.append_each_branch.Goals as goal

pub loop-branch-init : goal.loop-branch-init
loop-branch-init g c = none_written IsBranch branch_bytes c.args.out.now.items

pub loop-branch-preserved : goal.loop-branch-preserved
loop-branch-preserved g c =
    more_written IsBranch branch_bytes _ _ _ c.args.branches.now c.loop-branch.branch-index c.branch-item.result c.loop-branch-test.true c.branch-item.is c.loop-branch.invariant c.in_ok-append_branch.ensures.spelled c.in_ok-append_branch.ensures.right

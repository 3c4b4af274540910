use Rattle.std.proofs.Common.{take}
use Rattle.node_pages.specs.NodeBytes.{branch_bytes, IsBranch}
use Rattle.disk_fields.proofs.Written.{AreWritten}
use Rattle.node_pages.proofs.fields.append_each_branch.Given as goal

abbrev pub invariant-loop-branch : goal.invariant-loop-branch
invariant-loop-branch g l = AreWritten IsBranch branch_bytes l.initial.out.items l.out.items (take l.branch-index l.branches)

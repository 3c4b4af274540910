use Rattle.std.proofs.Common.{◌≡◌, ◌++◌, map, take}
use Rattle.enfilade_core.specs.Packing.{branch_back}
use Rattle.enfilade_core.proofs.rebuild_node.append_back.Given as goal

abbrev pub invariant-loop-branch : goal.invariant-loop-branch
invariant-loop-branch l = l.into.items ≡ l.fn.into.items ++ map (branch_back l.first l.second) (take l.branch-index l.branches)

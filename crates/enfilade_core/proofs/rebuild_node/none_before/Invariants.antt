use Rattle.std.proofs.Common.{take, All}
use Rattle.tumbler.specs.Places.{IsUpTo}
use Rattle.enfilade_core.proofs.rebuild_node.none_before.Given as goal

abbrev pub invariant-loop-branch : goal.invariant-loop-branch
invariant-loop-branch l = record {
  first : All (λ branch. IsUpTo l.first branch.first) (take l.branch-index l.branches);
  second : All (λ branch. IsUpTo l.second branch.second) (take l.branch-index l.branches);
}

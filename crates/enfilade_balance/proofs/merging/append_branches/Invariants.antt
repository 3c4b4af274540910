use Rattle.std.proofs.Common.{◌≡◌, ◌++◌, take}
use Rattle.enfilade_balance.proofs.merging.append_branches.Given as goal

abbrev pub invariant-loop-branch : goal.invariant-loop-branch
invariant-loop-branch l = l.into.items ≡ l.initial.into.items ++ take l.branch-index l.branches

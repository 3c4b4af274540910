use Rattle.std.proofs.Common.{◌≡◌, ◌++◌, take, drop, map, get_or}
use Rattle.enfilade_core.specs.NewNumbers.{renamed_branch}
use Rattle.enfilade_core.proofs.keep_nodes.rename_branches.Given as goal

abbrev pub invariant-loop-k : goal.invariant-loop-k
invariant-loop-k l = l.branches ≡ map (renamed_branch (λ i. get_or l.ranks i 0)) (take l.k l.initial.branches) ++ drop l.k l.initial.branches

use Rattle.std.proofs.Common.{◌≡◌, take, map, get_or}
use Rattle.enfilade_core.specs.NewNumbers.{renamed_branch}
use Rattle.enfilade_sweep.proofs.copying.renamed_branches.Given as goal

abbrev pub invariant-loop-branch : goal.invariant-loop-branch
invariant-loop-branch g l = l.made.items ≡ map (renamed_branch (λ k. get_or l.ranks k 0)) (take l.branch-index l.branches)

use Rattle.std.proofs.Common.{take, All}
use Rattle.tumbler.specs.Places.{IsUpTo}
use Rattle.enfilade_core.proofs.pack_children.first_least.Given as goal

abbrev pub invariant-loop-branch : goal.invariant-loop-branch
invariant-loop-branch l = All (λ branch. IsUpTo l.least branch.first) (take l.branch-index l.branches)

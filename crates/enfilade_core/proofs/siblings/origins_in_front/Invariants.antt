use Rattle.std.proofs.Common.{◌≡◌}
use Rattle.enfilade_core.proofs.siblings.origins_in_front.Given as goal

abbrev pub invariant-loop-branch : goal.invariant-loop-branch
invariant-loop-branch l = l.k ≡ l.branch-index

use Rattle.std.proofs.Common.{◌≡◌, take}
use Rattle.poom_compare.proofs.comparing.listed.Given as goal

abbrev pub invariant-loop-diagonal : goal.invariant-loop-diagonal
invariant-loop-diagonal l = l.made.items ≡ take l.diagonal-index l.diagonal-items

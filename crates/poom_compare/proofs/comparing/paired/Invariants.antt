use Rattle.std.proofs.Common.{◌≡◌, take}
use Rattle.poom_compare.specs.Segments.{paired}
use Rattle.poom_compare.proofs.comparing.paired.Given as goal

abbrev pub invariant-loop-k : goal.invariant-loop-k
invariant-loop-k l = l.made.items ≡ paired (take l.k l.starts) (take l.k l.ends)

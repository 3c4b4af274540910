use Rattle.std.proofs.Common.{◌≡◌, ◌++◌, take}
use Rattle.poom_compare.specs.Segments.{starts_of}
use Rattle.poom_compare.proofs.starts.push_all.Given as goal

abbrev pub invariant-loop-outer : goal.invariant-loop-outer
invariant-loop-outer l = l.found.items ≡ l.fn.found.items ++ starts_of l.side (take l.outer-index l.outers) l.inners

use Rattle.std.proofs.Common.{take}
use Rattle.paged_world.specs.inside.Same.{ShowAllSame}
use Rattle.paged_world.proofs.comparing.same_texts.Given as goal

abbrev pub invariant-loop-k : goal.invariant-loop-k
invariant-loop-k l = ShowAllSame l.pooms (take l.k l.rows) l.others (take l.k l.read)

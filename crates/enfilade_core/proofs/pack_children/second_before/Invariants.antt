use Rattle.std.proofs.Common.{take, All}
use Rattle.tumbler.specs.Places.{IsUpTo}
use Rattle.enfilade_core.proofs.pack_children.second_before.Given as goal

abbrev pub invariant-loop-row : goal.invariant-loop-row
invariant-loop-row g l = All (λ row. IsUpTo l.least row.second) (take l.row-index l.rows)

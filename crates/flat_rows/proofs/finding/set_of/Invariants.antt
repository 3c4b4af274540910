use Rattle.std.proofs.Common.{take}
use Rattle.flat_rows.specs.Sets.{IsSetOf}
use Rattle.flat_rows.proofs.finding.set_of.Given as goal

abbrev pub invariant-loop-tumbler : goal.invariant-loop-tumbler
invariant-loop-tumbler l = IsSetOf (take l.tumbler-index l.tumblers) l.set

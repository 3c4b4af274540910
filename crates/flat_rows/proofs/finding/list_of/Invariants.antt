use Rattle.std.proofs.Common.{◌≡◌, ◌++◌, All}
use Rattle.tumbler.specs.Places.{IsTumbler}
use Rattle.flat_rows.proofs.finding.list_of.Given as goal

abbrev pub invariant-loop-tumbler : goal.invariant-loop-tumbler
invariant-loop-tumbler l = (l.made.items ++ l.tumbler-iterator ≡ l.set.keys) × All IsTumbler l.made.items

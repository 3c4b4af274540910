use Rattle.std.specs.List.{All}
use Rattle.poom_compare.specs.Placed.{IsInterval}
use Rattle.poom_tests.proofs.compared.intervals.Given as goal

abbrev pub invariant-loop-one : goal.invariant-loop-one
invariant-loop-one g l = All (IsInterval 9) l.made.items

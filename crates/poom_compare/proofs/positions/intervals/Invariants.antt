use Rattle.std.proofs.Common.{All, take}
use Rattle.poom_compare.specs.Placed.{IsInterval}
use Rattle.poom_compare.proofs.IntervalSteps.{PicksSame}
use Rattle.poom_compare.proofs.positions.intervals.Given as goal

abbrev pub invariant-loop-span : goal.invariant-loop-span
invariant-loop-span l = All (IsInterval l.length) l.made.items × PicksSame l.length l.made.items (take l.span-index l.spans)

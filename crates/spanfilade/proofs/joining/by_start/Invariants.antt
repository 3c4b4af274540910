use Rattle.std.proofs.Common.{◌≡◌, take}
use Rattle.spanfilade.proofs.joining.by_start.Given as goal

abbrev pub invariant-loop-span : goal.invariant-loop-span
invariant-loop-span l = l.made.items ≡ take l.span-index l.spans

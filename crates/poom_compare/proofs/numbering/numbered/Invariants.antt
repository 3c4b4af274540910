use Rattle.std.proofs.Common.{take}
use Rattle.poom_compare.specs.Placed.{AreNumbers, AreStretchesOf, KeepsNumbers}
use Rattle.poom_compare.proofs.numbering.numbered.Given as goal

abbrev pub invariant-loop-run : goal.invariant-loop-run
invariant-loop-run l = AreNumbers l.numbers × KeepsNumbers l.fn.numbers l.numbers × AreStretchesOf l.numbers (take l.run-index l.placed) l.made.items

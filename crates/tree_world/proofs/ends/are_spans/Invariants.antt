use Rattle.std.proofs.Common.{All, take}
use Rattle.febe_data.specs.Validity.{IsSpan}
use Rattle.tree_world.proofs.ends.are_spans.Given as goal

abbrev pub invariant-loop-span : goal.invariant-loop-span
invariant-loop-span l = All IsSpan (take l.span-index l.spans)

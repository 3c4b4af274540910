use Rattle.std.proofs.Common.{◌≡◌, ◌++◌, take}
use Rattle.std.specs.List.{flat_map}
use Rattle.febe_data.specs.Spelling.{spell_span}
use Rattle.febe_data.proofs.writing.append_each_span.Given as goal

abbrev pub invariant-loop-span : goal.invariant-loop-span
invariant-loop-span l =
    l.out.items ≡ l.initial.out.items ++ flat_map spell_span (take l.span-index l.spans)

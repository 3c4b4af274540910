use Rattle.std.proofs.Common.{◌≡◌, ◌++◌, take}
use Rattle.std.specs.List.{flat_map}
use Rattle.febe_data.specs.Spelling.{spell_tumbler}
use Rattle.febe_data.proofs.writing.append_each_tumbler.Given as goal

abbrev pub invariant-loop-tumbler : goal.invariant-loop-tumbler
invariant-loop-tumbler l =
    l.out.items ≡ l.initial.out.items ++ flat_map spell_tumbler (take l.tumbler-index l.tumblers)

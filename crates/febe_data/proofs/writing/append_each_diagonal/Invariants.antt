use Rattle.std.proofs.Common.{◌≡◌, ◌++◌, take}
use Rattle.std.specs.List.{flat_map}
use Rattle.febe_data.specs.Spelling.{spell_diagonal}
use Rattle.febe_data.proofs.writing.append_each_diagonal.Given as goal

abbrev pub invariant-loop-diagonal : goal.invariant-loop-diagonal
invariant-loop-diagonal l =
    l.out.items ≡ l.initial.out.items ++ flat_map spell_diagonal (take l.diagonal-index l.diagonals)

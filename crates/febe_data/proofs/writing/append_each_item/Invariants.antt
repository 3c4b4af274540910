use Rattle.std.proofs.Common.{◌≡◌, ◌++◌, take, map}
use Rattle.std.specs.List.{flat_map}
use Rattle.febe_data.specs.Plain.{plain_item}
use Rattle.febe_data.specs.Spelling.{spell_item}
use Rattle.febe_data.proofs.writing.append_each_item.Given as goal

abbrev pub invariant-loop-item : goal.invariant-loop-item
invariant-loop-item l =
    l.out.items ≡ l.initial.out.items ++ flat_map spell_item (map plain_item (take l.item-index l.items))

use Rattle.std.proofs.Common.{◌≡◌, ◌+◌, ◌≤◌, length, map, take}
use Rattle.febe_data.specs.Plain.{plain_item}
use Rattle.febe_data.proofs.reply.clone_items.Given as goal

abbrev pub invariant-loop-item : goal.invariant-loop-item
invariant-loop-item l = record {
  made : map plain_item l.copy.items ≡ map plain_item (take l.item-index l.items);
  room : length l.items ≤ l.copy.spare + l.item-index;
}

use Rattle.std.proofs.Common.{◌≡◌, ◌-◌, ◌+◌, ◌≤◌, map}
use Rattle.febe_data.specs.Plain.{plain_item}
use Rattle.febe_fields.specs.Reading.{many_at}
use Rattle.febe_fields.proofs.ManyLoop.{with_items}
use Rattle.febe_reply.specs.inside.Reading.{item_at}
use Rattle.febe_reply.proofs.items.many_items_at.Given as goal

abbrev pub invariant-loop : goal.invariant-loop
invariant-loop l = record {
  so_far : with_items (map plain_item l.items.items) (many_at item_at (l.count - l.counter) l.rest) ≡ many_at item_at l.count l.bytes;
  room : l.count ≤ l.items.spare + l.counter;
}

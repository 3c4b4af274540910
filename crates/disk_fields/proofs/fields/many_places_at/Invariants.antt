use Rattle.std.proofs.Common.{◌≡◌, ◌-◌, length}
use Rattle.febe_fields.specs.Reading.{many_at}
use Rattle.febe_fields.proofs.ManyLoop.{with_items}
use Rattle.disk_fields.specs.Reading.{u32_at}
use Rattle.disk_fields.proofs.fields.many_places_at.Given as goal

abbrev pub invariant-loop : goal.invariant-loop
invariant-loop l = record {
  so_far : with_items l.places.items (many_at u32_at (l.count - l.counter) l.rest) ≡ many_at u32_at l.count l.bytes;
  count : length l.places.items ≡ l.counter;
  inline : l.places.capacity ≡ 24;
}

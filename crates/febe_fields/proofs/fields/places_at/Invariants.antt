use Rattle.std.proofs.Common.{◌≡◌, ◌-◌, length}
use Rattle.febe_fields.specs.Reading.{places_at}
use Rattle.febe_fields.proofs.Loop.{with_prefix}
use Rattle.febe_fields.proofs.fields.places_at.Given as goal

abbrev pub invariant-loop : goal.invariant-loop
invariant-loop l = record {
  so_far : with_prefix l.places.items (places_at (l.room - l.counter) l.rest) ≡ places_at l.room l.bytes;
  count : length l.places.items ≡ l.counter;
  inline : l.places.capacity ≡ 24;
}

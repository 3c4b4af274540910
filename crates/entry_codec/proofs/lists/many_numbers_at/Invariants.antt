use Rattle.std.proofs.Common.{◌≡◌, ◌-◌, ◌+◌, ◌≤◌}
use Rattle.febe_fields.specs.Reading.{many_at}
use Rattle.febe_fields.proofs.ManyLoop.{with_items}
use Rattle.entry_codec.specs.Reading.{u32_at}
use Rattle.entry_codec.proofs.lists.many_numbers_at.Given as goal

abbrev pub invariant-loop : goal.invariant-loop
invariant-loop l = record {
  so_far : with_items l.numbers.items (many_at u32_at (l.count - l.counter) l.rest) ≡ many_at u32_at l.count l.bytes;
  room : l.count ≤ l.numbers.spare + l.counter;
}

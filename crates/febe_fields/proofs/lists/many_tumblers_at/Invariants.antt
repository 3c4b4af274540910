use Rattle.std.proofs.Common.{◌≡◌, ◌-◌, ◌+◌, ◌≤◌}
use Rattle.febe_fields.specs.Reading.{tumbler_at, many_at}
use Rattle.febe_fields.proofs.ManyLoop.{with_items}
use Rattle.febe_fields.proofs.lists.many_tumblers_at.Given as goal

abbrev pub invariant-loop : goal.invariant-loop
invariant-loop l = record {
  so_far : with_items l.tumblers.items (many_at tumbler_at (l.count - l.counter) l.rest) ≡ many_at tumbler_at l.count l.bytes;
  room : l.count ≤ l.tumblers.spare + l.counter;
}

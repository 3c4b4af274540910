use Rattle.std.proofs.Common.{◌≡◌, ◌-◌, ◌+◌, ◌≤◌}
use Rattle.febe_fields.specs.Reading.{span_at, many_at}
use Rattle.febe_fields.proofs.ManyLoop.{with_items}
use Rattle.febe_fields.proofs.lists.many_spans_at.Given as goal

abbrev pub invariant-loop : goal.invariant-loop
invariant-loop l = record {
  so_far : with_items l.spans.items (many_at span_at (l.count - l.counter) l.rest) ≡ many_at span_at l.count l.bytes;
  room : l.count ≤ l.spans.spare + l.counter;
}

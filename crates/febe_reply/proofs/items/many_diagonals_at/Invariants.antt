use Rattle.std.proofs.Common.{◌≡◌, ◌-◌, ◌+◌, ◌≤◌}
use Rattle.febe_fields.specs.Reading.{many_at}
use Rattle.febe_fields.proofs.ManyLoop.{with_items}
use Rattle.febe_reply.specs.inside.Reading.{diagonal_at}
use Rattle.febe_reply.proofs.items.many_diagonals_at.Given as goal

abbrev pub invariant-loop : goal.invariant-loop
invariant-loop l = record {
  so_far : with_items l.diagonals.items (many_at diagonal_at (l.count - l.counter) l.rest) ≡ many_at diagonal_at l.count l.bytes;
  room : l.count ≤ l.diagonals.spare + l.counter;
}

use Rattle.std.proofs.Common.{◌≡◌, ◌-◌, ◌+◌, ◌≤◌}
use Rattle.febe_data.specs.Plain.{plain_specs}
use Rattle.febe_fields.specs.Reading.{many_at}
use Rattle.febe_fields.proofs.ManyLoop.{with_items}
use Rattle.entry_codec.specs.Reading.{spec_at}
use Rattle.entry_codec.proofs.lists.many_specs_at.Given as goal

abbrev pub invariant-loop : goal.invariant-loop
invariant-loop l = record {
  so_far : with_items (plain_specs l.specs.items) (many_at spec_at (l.count - l.counter) l.rest) ≡ many_at spec_at l.count l.bytes;
  room : l.count ≤ l.specs.spare + l.counter;
}

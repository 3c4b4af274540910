use Rattle.std.proofs.Common.{◌≡◌, ◌++◌, ◌-◌}
use Rattle.world_rules.specs.Edits.{content_addresses}
use Rattle.flat_rows.proofs.edits.content_addresses.Given as goal

abbrev pub invariant-loop : goal.invariant-loop
invariant-loop l = l.made.items ++ content_addresses l.document l.first (l.count - l.counter) ≡ content_addresses l.document l.initial.first l.count

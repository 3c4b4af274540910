use Rattle.std.proofs.Common.{◌≡◌, ◌+◌, ◌==◌, ◌++◌, All, drop, map}
use Rattle.febe_data.specs.Validity.{IsSpan}
use Rattle.world_rules.specs.Picking.{stretches_on, interval}
use Rattle.flat_rows.proofs.intervals.intervals_from.Given as goal

abbrev pub invariant-loop-position : goal.invariant-loop-position
invariant-loop-position l = record {
  same : l.made.items ++ map interval (stretches_on (λ a b. b == a + 1) l.open.first l.open.last l.open.count (drop l.position-index l.rest)) ≡ map interval (stretches_on (λ a b. b == a + 1) l.first l.first 1 l.rest);
  valid : All IsSpan l.made.items;
}

use Rattle.std.proofs.Common.{◌≡◌, ℕ, ◌<◌, ◌≤◌, ◌-◌, true, false}
use Rattle.world_rules.specs.World.{content_address}
use Rattle.index_checks.specs.inside.Points.{is_point_before}
use Rattle.index_checks.proofs.run_covering.first_beyond.Given as goal

abbrev pub invariant-loop-low : goal.invariant-loop-low
invariant-loop-low l = record {
  from : l.from ≤ l.low;
  ordered : l.low ≤ l.high;
  to : l.high ≤ l.to;
  before : (n : ℕ) → l.from ≤ n → n < l.low → is_point_before (record { key = l.key; place = content_address l.content n }) l.reach ≡ true;
  beyond : (n : ℕ) → l.high ≤ n → n < l.to → is_point_before (record { key = l.key; place = content_address l.content n }) l.reach ≡ false;
}

abbrev pub decreases-loop-low : goal.decreases-loop-low
decreases-loop-low l = l.high - l.low

use Rattle.std.proofs.Common.{◌≡◌, ℕ, ◌+◌, ◌-◌, ◌<◌, ◌≤◌}
use Rattle.world_rules.specs.World.{content_address}
use Rattle.index_checks.specs.inside.Points.{IsCoveredBy}
use Rattle.index_checks.proofs.run_covering.is_run_covered.Given as goal

abbrev pub invariant-loop-at : goal.invariant-loop-at
invariant-loop-at l = record {
  from : l.run.first ≤ l.at;
  to : l.at ≤ l.end;
  covered : (n : ℕ) → l.run.first ≤ n → n < l.at → IsCoveredBy l.rows l.run.origin (content_address l.run.content n);
}

abbrev pub decreases-loop-at : goal.decreases-loop-at
decreases-loop-at l = l.end - l.at

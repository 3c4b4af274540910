use Rattle.std.proofs.Common.{◌≡◌, ◌≤◌, ◌-◌, true, false, length, take, drop}
use Rattle.std.specs.List.{All}
use Rattle.index_checks.specs.inside.Points.{starts_behind}
use Rattle.index_checks.proofs.reaches.count_up_to.Given as goal

abbrev pub invariant-loop-low : goal.invariant-loop-low
invariant-loop-low l = record {
  ordered : l.low ≤ l.high;
  within : l.high ≤ length l.rows;
  up_to : All (λ row. starts_behind l.point row ≡ false) (take l.low l.rows);
  behind : All (λ row. starts_behind l.point row ≡ true) (drop l.high l.rows);
}

abbrev pub decreases-loop-low : goal.decreases-loop-low
decreases-loop-low l = l.high - l.low

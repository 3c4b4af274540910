use Rattle.std.proofs.Common.{take}
use Rattle.index_checks.specs.inside.Points.{AreReaches}
use Rattle.index_checks.proofs.Reaching.{IsReachSoFar}
use Rattle.index_checks.proofs.reaches.reaches.Given as goal

abbrev pub invariant-loop-row : goal.invariant-loop-row
invariant-loop-row l = IsReachSoFar l.rows l.row-index l.made.items l.reach

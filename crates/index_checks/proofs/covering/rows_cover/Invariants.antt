use Rattle.std.proofs.Common.{take}
use Rattle.std.specs.List.{All}
use Rattle.index_checks.specs.inside.Points.{IsRunCoveredBy}
use Rattle.index_checks.proofs.covering.rows_cover.Given as goal

abbrev pub invariant-loop-run : goal.invariant-loop-run
invariant-loop-run l = All (IsRunCoveredBy l.rows) (take l.run-index l.shown)

use Rattle.std.proofs.Common.{All, take}
use Rattle.table_checks.specs.Sound.{IsLinkRun}
use Rattle.table_checks.proofs.runs.are_runs.Given as goal

abbrev pub invariant-loop-run : goal.invariant-loop-run
invariant-loop-run l = All IsLinkRun (take l.run-index l.runs)

use Rattle.std.proofs.Common.{take}
use Rattle.green_flush.specs.inside.Showing.{AreRunsOf}
use Rattle.green_flush.proofs.shown.shown_runs.Given as goal

abbrev pub invariant-loop-row : goal.invariant-loop-row
invariant-loop-row l = AreRunsOf l.poom (take l.row-index l.documents) l.runs.items

use Rattle.std.proofs.Common.{take}
use Rattle.enfilade_core.specs.Rows.{branch_rows, rows_table}
use Rattle.enfilade_core.specs.WellFormed.{IsWellFormedPart}
use Rattle.enfilade_core.specs.Summary.{branch_summary, summaries}
use Rattle.enfilade_core.proofs.GoneThrough.{GoneThrough}
use Rattle.enfilade_core.proofs.arena.Arena.branches_summary.Given as goal

abbrev pub invariant-loop-branch : goal.invariant-loop-branch
invariant-loop-branch g l = GoneThrough (branch_rows (rows_table l.self)) (branch_summary (summaries g.P.Plane.widths l.self)) (IsWellFormedPart g.P.Plane.widths l.self) (take l.branch-index l.branches) l.summary

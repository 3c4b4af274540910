use Rattle.std.proofs.Common.{take, map}
use Rattle.enfilade_core.specs.Summary.{row_summary}
use Rattle.enfilade_core.specs.Plain.{plain_row}
use Rattle.enfilade_core.proofs.Joined.{JoinedSoFar}
use Rattle.enfilade_core.proofs.summarize.rows_told.Given as goal

abbrev pub invariant-loop-row : goal.invariant-loop-row
invariant-loop-row g l = JoinedSoFar (row_summary g.P.Plane.widths) (take l.row-index (map (plain_row g.P.Plane.plain) l.rows)) l.summary

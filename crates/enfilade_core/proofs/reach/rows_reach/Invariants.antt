use Rattle.std.proofs.Common.{take, map}
use Rattle.enfilade_core.specs.Axes.{first_axis, second_axis}
use Rattle.enfilade_core.specs.Plain.{plain_row}
use Rattle.enfilade_core.proofs.ReachBelow.{RowsReached}
use Rattle.enfilade_core.proofs.reach.rows_reach.Given as goal

abbrev pub invariant-loop-row : goal.invariant-loop-row
invariant-loop-row g l = record {
  first : RowsReached (first_axis g.P.Plane.widths) (take l.row-index (map (plain_row g.P.Plane.plain) l.rows)) l.reach.first;
  second : RowsReached (second_axis g.P.Plane.widths) (take l.row-index (map (plain_row g.P.Plane.plain) l.rows)) l.reach.second;
}

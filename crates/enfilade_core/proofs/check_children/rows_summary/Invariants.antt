use Rattle.std.proofs.Common.{◌∷◌, [], take, map}
use Rattle.enfilade_core.specs.Axes.{IsWellFormedRow}
use Rattle.enfilade_core.specs.Summary.{row_summary}
use Rattle.enfilade_core.specs.Plain.{plain_row}
use Rattle.enfilade_core.proofs.GoneThrough.{GoneThrough}
use Rattle.enfilade_core.proofs.check_children.rows_summary.Given as goal

abbrev pub invariant-loop-row : goal.invariant-loop-row
invariant-loop-row g l = GoneThrough (λ r. r ∷ []) (row_summary g.P.Plane.widths) (IsWellFormedRow g.P.Plane.widths) (take l.row-index (map (plain_row g.P.Plane.plain) l.rows)) l.summary

use Rattle.std.proofs.Common.{◌≡◌, ◌++◌, map, take}
use Rattle.enfilade_core.specs.Rows.{moved}
use Rattle.enfilade_core.specs.Plain.{plain_row}
use Rattle.enfilade_core.proofs.list_rows.append_moved.Given as goal

abbrev pub invariant-loop-row : goal.invariant-loop-row
invariant-loop-row g l = map (plain_row g.P.Plane.plain) l.into.items ≡ map (plain_row g.P.Plane.plain) l.initial.into.items ++ map (moved l.first l.second) (map (plain_row g.P.Plane.plain) (take l.row-index l.rows))

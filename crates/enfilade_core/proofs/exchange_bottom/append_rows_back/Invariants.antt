use Rattle.std.proofs.Common.{◌≡◌, ◌++◌, take, map}
use Rattle.enfilade_core.specs.Packing.{back}
use Rattle.enfilade_core.specs.Plain.{plain_row}
use Rattle.enfilade_core.proofs.exchange_bottom.append_rows_back.Given as goal

abbrev pub invariant-loop-row : goal.invariant-loop-row
invariant-loop-row g l = map (plain_row g.P.Plane.plain) l.into.items ≡ map (plain_row g.P.Plane.plain) l.initial.into.items ++ map (back l.first l.second) (map (plain_row g.P.Plane.plain) (take l.row-index l.rows))

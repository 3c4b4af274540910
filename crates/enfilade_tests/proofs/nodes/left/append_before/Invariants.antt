use Rattle.std.proofs.Common.{◌≡◌, ◌++◌, take, map}
use Rattle.enfilade_core.specs.Plain.{plain_row}
use Rattle.enfilade_core.specs.Exchange.{rows_before}
use Rattle.enfilade_tests.proofs.nodes.left.append_before.Given as goal

abbrev pub invariant-loop-row : goal.invariant-loop-row
invariant-loop-row g l = map (plain_row g.P.Plane.plain) l.into.items ≡ map (plain_row g.P.Plane.plain) l.initial.into.items ++ rows_before l.at (map (plain_row g.P.Plane.plain) (take l.row-index l.rows))

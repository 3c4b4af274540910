use Rattle.std.proofs.Common.{◌≡◌, ◌++◌, take, map}
use Rattle.enfilade_core.specs.Plain.{plain_row}
use Rattle.enfilade_core.specs.Edits.{shifted}
use Rattle.enfilade_core.specs.Exchange.{rows_past}
use Rattle.enfilade_tests.proofs.nodes.left.append_behind.Given as goal

abbrev pub invariant-loop-row : goal.invariant-loop-row
invariant-loop-row g l = map (plain_row g.P.Plane.plain) l.into.items ≡ map (plain_row g.P.Plane.plain) l.initial.into.items ++ shifted l.gap.to l.gap.onto (rows_past l.gap.to (map (plain_row g.P.Plane.plain) (take l.row-index l.rows)))

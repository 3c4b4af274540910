use Rattle.std.proofs.Common.{◌≡◌, ◌++◌, take, map}
use Rattle.enfilade_core.specs.Rows.{moved}
use Rattle.enfilade_core.specs.Edits.{shifted}
use Rattle.enfilade_core.specs.Packing.{back}
use Rattle.enfilade_core.specs.Plain.{plain_row}
use Rattle.enfilade_core.proofs.exchange_bottom.append_shifted_back.Given as goal

abbrev pub invariant-loop-row : goal.invariant-loop-row
invariant-loop-row g l = map (plain_row g.P.Plane.plain) l.into.items ≡ map (plain_row g.P.Plane.plain) l.initial.into.items ++ map (back l.first l.second) (shifted l.gap.to l.gap.onto (map (moved l.first l.second) (map (plain_row g.P.Plane.plain) (take l.row-index l.rows))))

use Rattle.std.proofs.Common.{◌≡◌, ◌++◌, take, map}
use Rattle.std.specs.List.{filter}
use Rattle.enfilade_core.specs.Rows.{moved}
use Rattle.enfilade_core.specs.Plain.{plain_row}
use Rattle.enfilade_search.specs.Sought.{is_sought}
use Rattle.enfilade_search.proofs.gather.take_rows_in_order.Given as goal

abbrev pub invariant-loop-row : goal.invariant-loop-row
invariant-loop-row g l = map (plain_row g.P.Plane.plain) l.out.items ≡ map (plain_row g.P.Plane.plain) l.initial.out.items ++ filter (is_sought g.P.Plane.widths l.sought) (map (moved l.first l.second) (map (plain_row g.P.Plane.plain) (take l.row-index l.rows)))

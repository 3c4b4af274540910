use Rattle.std.proofs.Common.{◌≡◌, ◌-◌, map}
use Rattle.febe_fields.specs.Reading.{many_at}
use Rattle.febe_fields.proofs.ManyLoop.{with_items}
use Rattle.enfilade_core.specs.Plain.{plain_row}
use Rattle.node_pages.proofs.rows.many_rows_at.Given as goal

abbrev pub invariant-loop : goal.invariant-loop
invariant-loop g l = with_items (map (plain_row g.P.Plane.plain) l.rows.items) (many_at g.P.PagedPlane.row_at (l.count - l.counter) l.rest) ≡ many_at g.P.PagedPlane.row_at l.count l.bytes

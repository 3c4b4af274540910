use Rattle.std.proofs.Common.{map, take}
use Rattle.enfilade_core.specs.Plain.{plain_row}
use Rattle.disk_fields.proofs.Written.{AreWritten}
use Rattle.node_pages.proofs.rows.append_each_row.Given as goal

abbrev pub invariant-loop-row : goal.invariant-loop-row
invariant-loop-row g l = AreWritten g.P.PagedPlane.is_row g.P.PagedPlane.row_bytes l.initial.out.items l.out.items (map (plain_row g.P.Plane.plain) (take l.row-index l.rows))

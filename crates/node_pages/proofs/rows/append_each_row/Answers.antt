use Rattle.enfilade_core.specs.Plain.{plain_row}
use Rattle.disk_fields.proofs.Written.{none_written, more_seen_written}
use Rattle.node_pages.proofs.rows.append_each_row.Goals as goal

pub loop-row-init : goal.loop-row-init
loop-row-init g c = none_written g.P.PagedPlane.is_row g.P.PagedPlane.row_bytes c.args.out.now.items

pub loop-row-preserved : goal.loop-row-preserved
loop-row-preserved g c =
    more_seen_written g.P.PagedPlane.is_row g.P.PagedPlane.row_bytes (plain_row g.P.Plane.plain) _ _ _ c.args.rows.now c.loop-row.row-index c.row-item.result c.loop-row-test.true c.row-item.is c.loop-row.invariant
    c.in_ok-append_row.ensures.spelled c.in_ok-append_row.ensures.right

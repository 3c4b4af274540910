use Rattle.std.proofs.Common.{map}
use Rattle.std.proofs.lemmas.List.{map-append}
use Rattle.febe_fields.proofs.ManyLoop.{one_more, none_more, all_read}
use Rattle.enfilade_core.specs.Plain.{plain_row}
use Rattle.node_pages.proofs.rows.many_rows_at.Goals as goal

pub returns-in_default : goal.returns-in_default
returns-in_default g c =
    none_more g.P.PagedPlane.row_at (map (plain_row g.P.Plane.plain) c.loop.rows.items) c.args.count c.loop.counter c.loop.rest.now _ c.loop-test.true (rw c.in_default.is at c.in_ok-row.ensures) c.loop.invariant

pub loop-preserved : goal.loop-preserved
loop-preserved g c =
    rw (c.push_reserved.ensures.items, c.in_ok-reserve.ensures.items, map-append)
    (one_more g.P.PagedPlane.row_at (map (plain_row g.P.Plane.plain) c.loop.rows.items) c.args.count c.loop.counter c.loop.rest.now (plain_row g.P.Plane.plain c.in-Some.row) c.in-Some.behind.now _ c.loop-test.true (rw c.in-Some.is at c.in_ok-row.ensures) c.loop.invariant)

pub returns : goal.returns
returns g c = all_read g.P.PagedPlane.row_at (map (plain_row g.P.Plane.plain) c.loop.rows.items) c.args.count c.loop.counter c.loop.rest.now _ c.loop-test.false c.loop.invariant

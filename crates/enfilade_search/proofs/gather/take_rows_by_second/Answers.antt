use Rattle.std.proofs.Common.{map}
use Rattle.enfilade_core.specs.Plain.{plain_row}
use Rattle.enfilade_search.specs.Sought.{is_sought}
use Rattle.enfilade_search.proofs.Placing.{row_at, rows_more}
use Rattle.enfilade_search.proofs.Beside.{beside_so, beside-left}
use Rattle.enfilade_search.proofs.gather.take_rows_by_second.Goals as goal

pub is_beside-requires : goal.is_beside-requires
is_beside-requires g c =
    (row_at g.P.Plane.widths g.P.Plane.plain c.args.first.now c.args.second.now c.args.rows.now c.loop-row.row-index c.row-item.result c.requires.own c.requires.there c.loop-row-test.true c.row-item.is).own

pub take_row-requires-clause-own : goal.take_row-requires-clause-own
take_row-requires-clause-own g c =
    (row_at g.P.Plane.widths g.P.Plane.plain c.args.first.now c.args.second.now c.args.rows.now c.loop-row.row-index c.row-item.result c.requires.own c.requires.there c.loop-row-test.true c.row-item.is).own

pub take_row-requires-clause-there : goal.take_row-requires-clause-there
take_row-requires-clause-there g c =
    (row_at g.P.Plane.widths g.P.Plane.plain c.args.first.now c.args.second.now c.args.rows.now c.loop-row.row-index c.row-item.result c.requires.own c.requires.there c.loop-row-test.true c.row-item.is).there

pub loop-row-preserved-then-is_beside : goal.loop-row-preserved-then-is_beside
loop-row-preserved-then-is_beside g c =
    let so_far = map (plain_row g.P.Plane.plain) c.loop-row.out.items in
    let own = (row_at g.P.Plane.widths g.P.Plane.plain c.args.first.now c.args.second.now c.args.rows.now c.loop-row.row-index c.row-item.result c.requires.own c.requires.there c.loop-row-test.true c.row-item.is).own in
    rows_more g.P.Plane.plain (is_sought g.P.Plane.widths c.args.sought.now) c.args.first.now c.args.second.now c.args.rows.now c.loop-row.row-index c.row-item.result (map (plain_row g.P.Plane.plain) c.args.out.now.items)
    so_far so_far c.loop-row-test.true c.row-item.is c.loop-row.invariant
    (beside-left g.P.Plane.widths g.met.P.Plane.widths_stay c.args.sought.now c.args.first.now c.args.second.now c.seen_from-from.result c.seen_from-to.result (plain_row g.P.Plane.plain c.row-item.result) so_far c.requires.second c.seen_from-from.ensures
    c.seen_from-to.ensures own (beside_so _ _ _ c.is_beside.ensures c.if-is_beside.true))

pub loop-row-preserved : goal.loop-row-preserved
loop-row-preserved g c =
    rows_more g.P.Plane.plain (is_sought g.P.Plane.widths c.args.sought.now) c.args.first.now c.args.second.now c.args.rows.now c.loop-row.row-index c.row-item.result (map (plain_row g.P.Plane.plain) c.args.out.now.items)
    (map (plain_row g.P.Plane.plain) c.loop-row.out.items) (map (plain_row g.P.Plane.plain) c.take_row.new.out.items) c.loop-row-test.true c.row-item.is c.loop-row.invariant c.in_ok-take_row.ensures.taken

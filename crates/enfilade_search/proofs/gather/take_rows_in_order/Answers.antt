use Rattle.std.proofs.Common.{map}
use Rattle.enfilade_core.specs.Plain.{plain_row}
use Rattle.enfilade_search.specs.Sought.{is_sought}
use Rattle.enfilade_search.proofs.Placing.{row_at, rows_more}
use Rattle.enfilade_search.proofs.Stopping.{held_rows_stop}
use Rattle.enfilade_search.proofs.gather.take_rows_in_order.Goals as goal

pub take_row-requires-clause-own : goal.take_row-requires-clause-own
take_row-requires-clause-own g c =
    (row_at g.P.Plane.widths g.P.Plane.plain c.args.first.now c.args.second.now c.args.rows.now c.loop-row.row-index c.row-item.result c.requires.own c.requires.there c.loop-row-test.true c.row-item.is).own

pub take_row-requires-clause-there : goal.take_row-requires-clause-there
take_row-requires-clause-there g c =
    (row_at g.P.Plane.widths g.P.Plane.plain c.args.first.now c.args.second.now c.args.rows.now c.loop-row.row-index c.row-item.result c.requires.own c.requires.there c.loop-row-test.true c.row-item.is).there

pub loop-row-preserved : goal.loop-row-preserved
loop-row-preserved g c =
    rows_more g.P.Plane.plain (is_sought g.P.Plane.widths c.args.sought.now) c.args.first.now c.args.second.now c.args.rows.now c.loop-row.row-index c.row-item.result (map (plain_row g.P.Plane.plain) c.args.out.now.items)
    (map (plain_row g.P.Plane.plain) c.loop-row.out.items) (map (plain_row g.P.Plane.plain) c.take_row.new.out.items) c.loop-row-test.true c.row-item.is c.loop-row.invariant c.in_ok-take_row.ensures.taken

pub returns-then-not-branch : goal.returns-then-not-branch
returns-then-not-branch g c =
    held_rows_stop g.P.Plane.widths g.P.Plane.plain c.args.sought.now c.args.first.now c.args.second.now c.args.rows.now c.loop-row.row-index c.row-item.result c.in_ok-take_row.field-0 (map (plain_row g.P.Plane.plain) c.args.out.now.items)
    (map (plain_row g.P.Plane.plain) c.take_row.new.out.items) c.requires.there c.requires.ordered c.loop-row-test.true c.row-item.is c.in_ok-take_row.ensures.goes_on c.if-not-branch.true
    (rows_more g.P.Plane.plain (is_sought g.P.Plane.widths c.args.sought.now) c.args.first.now c.args.second.now c.args.rows.now c.loop-row.row-index c.row-item.result (map (plain_row g.P.Plane.plain) c.args.out.now.items)
    (map (plain_row g.P.Plane.plain) c.loop-row.out.items) (map (plain_row g.P.Plane.plain) c.take_row.new.out.items) c.loop-row-test.true c.row-item.is c.loop-row.invariant c.in_ok-take_row.ensures.taken)

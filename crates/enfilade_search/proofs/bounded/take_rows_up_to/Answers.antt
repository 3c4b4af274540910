use Rattle.std.proofs.Common.{map}
use Rattle.enfilade_core.specs.Plain.{plain_row}
use Rattle.enfilade_search.specs.Sought.{is_sought}
use Rattle.enfilade_search.proofs.Placing.{row_at}
use Rattle.enfilade_search.proofs.UpToLimit.{rows_more_held, rows_stop_held, rows_given_up, rows_all_held}
use Rattle.enfilade_search.proofs.bounded.take_rows_up_to.Goals as goal

pub returns-then-len-limit : goal.returns-then-len-limit
returns-then-len-limit g c =
    rows_given_up g.P.Plane.plain (is_sought g.P.Plane.widths c.args.sought.now) c.args.first.now c.args.second.now c.args.limit c.loop-row.row-index c.len.result c.args.rows.now (map (plain_row g.P.Plane.plain) c.args.out.now.items) c.loop-row.out.items
    c.len.ensures c.if-len-limit.true c.loop-row.invariant

pub take_row-requires-clause-own : goal.take_row-requires-clause-own
take_row-requires-clause-own g c =
    (row_at g.P.Plane.widths g.P.Plane.plain c.args.first.now c.args.second.now c.args.rows.now c.loop-row.row-index c.row-item.result c.requires.own c.requires.there c.loop-row-test.true c.row-item.is).own

pub take_row-requires-clause-there : goal.take_row-requires-clause-there
take_row-requires-clause-there g c =
    (row_at g.P.Plane.widths g.P.Plane.plain c.args.first.now c.args.second.now c.args.rows.now c.loop-row.row-index c.row-item.result c.requires.own c.requires.there c.loop-row-test.true c.row-item.is).there

pub loop-row-preserved : goal.loop-row-preserved
loop-row-preserved g c =
    rows_more_held g.P.Plane.plain (is_sought g.P.Plane.widths c.args.sought.now) c.args.first.now c.args.second.now c.args.limit c.args.rows.now c.loop-row.row-index c.row-item.result (map (plain_row g.P.Plane.plain) c.args.out.now.items)
    (map (plain_row g.P.Plane.plain) c.loop-row.out.items) (map (plain_row g.P.Plane.plain) c.take_row.new.out.items) c.loop-row-test.true c.row-item.is c.loop-row.invariant c.in_ok-take_row.ensures.taken

pub returns-then-not-branch : goal.returns-then-not-branch
returns-then-not-branch g c =
    rows_stop_held g.P.Plane.widths g.P.Plane.plain c.args.sought.now c.args.first.now c.args.second.now c.args.limit c.args.rows.now c.loop-row.row-index c.row-item.result c.in_ok-take_row.field-0 (map (plain_row g.P.Plane.plain) c.args.out.now.items)
    (map (plain_row g.P.Plane.plain) c.take_row.new.out.items) c.requires.there c.requires.ordered c.loop-row-test.true c.row-item.is c.in_ok-take_row.ensures.goes_on c.if-not-branch.true
    (rows_more_held g.P.Plane.plain (is_sought g.P.Plane.widths c.args.sought.now) c.args.first.now c.args.second.now c.args.limit c.args.rows.now c.loop-row.row-index c.row-item.result (map (plain_row g.P.Plane.plain) c.args.out.now.items)
    (map (plain_row g.P.Plane.plain) c.loop-row.out.items) (map (plain_row g.P.Plane.plain) c.take_row.new.out.items) c.loop-row-test.true c.row-item.is c.loop-row.invariant c.in_ok-take_row.ensures.taken)

pub returns : goal.returns
returns g c =
    rows_all_held g.P.Plane.plain (is_sought g.P.Plane.widths c.args.sought.now) c.args.first.now c.args.second.now c.args.limit c.args.rows.now c.loop-row.row-index (map (plain_row g.P.Plane.plain) c.args.out.now.items) (map (plain_row g.P.Plane.plain) c.loop-row.out.items)
    c.loop-row-test.false c.loop-row.invariant

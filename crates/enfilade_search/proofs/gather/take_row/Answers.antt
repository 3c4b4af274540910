use Rattle.std.proofs.Common.{map}
use Rattle.tumbler.specs.Places.{sum}
use Rattle.enfilade_core.specs.Rows.{moved}
use Rattle.enfilade_core.specs.Plain.{plain_row}
use Rattle.enfilade_search.specs.Sought.{is_sought}
use Rattle.enfilade_search.proofs.Placing.{first_fits, second_fits, first_end_fits, second_end_fits, met_is, left_out, taken_in, made_is}
use Rattle.enfilade_search.proofs.Stopping.{row_past, goes_on, stops}
use Rattle.enfilade_search.proofs.gather.take_row.Goals as goal

pub add-first-requires : goal.add-first-requires
add-first-requires g c = first_fits g.P.Plane.widths c.args.first.now c.args.second.now (plain_row g.P.Plane.plain c.args.row.now) c.requires.there

pub add-second-requires : goal.add-second-requires
add-second-requires g c = second_fits g.P.Plane.widths c.args.first.now c.args.second.now (plain_row g.P.Plane.plain c.args.row.now) c.requires.there

pub is_met-requires-clause-first_fits : goal.is_met-requires-clause-first_fits
is_met-requires-clause-first_fits g c =
    first_end_fits g.P.Plane.widths g.met.P.Plane.widths_stay c.args.first.now c.args.second.now c.add-first.result (plain_row g.P.Plane.plain c.args.row.now) c.add-first.ensures c.requires.own c.requires.there

pub is_met-requires-clause-second_fits : goal.is_met-requires-clause-second_fits
is_met-requires-clause-second_fits g c =
    second_end_fits g.P.Plane.widths g.met.P.Plane.widths_stay c.args.first.now c.args.second.now c.add-second.result (plain_row g.P.Plane.plain c.args.row.now) c.add-second.ensures c.requires.own c.requires.there

pub returns-then-is_past-clause-taken : goal.returns-then-is_past-clause-taken
returns-then-is_past-clause-taken g c =
    row_past g.P.Plane.widths c.args.sought.now c.args.first.now c.args.second.now c.add-first.result (plain_row g.P.Plane.plain c.args.row.now) c.is_past.result (map (plain_row g.P.Plane.plain) c.args.out.now.items) c.requires.there
    c.add-first.ensures c.is_past.ensures c.if-is_past.true

pub returns-then-is_past-clause-goes_on : goal.returns-then-is_past-clause-goes_on
returns-then-is_past-clause-goes_on g c = stops c.args.sought.now c.add-first.result (sum c.args.first.now c.args.row.now.first) c.is_past.result c.add-first.ensures c.is_past.ensures c.if-is_past.true

pub returns-then-not-is_met-clause-taken : goal.returns-then-not-is_met-clause-taken
returns-then-not-is_met-clause-taken g c =
    let row = plain_row g.P.Plane.plain c.args.row.now in
    let is = met_is g.P.Plane.widths g.met.P.Plane.widths_stay c.args.sought.now c.args.first.now c.args.second.now c.add-first.result c.add-second.result row c.is_met.result c.requires.own c.add-first.ensures c.add-second.ensures c.is_met.ensures in
    left_out (is_sought g.P.Plane.widths c.args.sought.now) (map (plain_row g.P.Plane.plain) c.args.out.now.items) (moved c.args.first.now c.args.second.now row) c.is_met.result is c.if-not-is_met.true

pub returns-clause-taken : goal.returns-clause-taken
returns-clause-taken g c =
    let row = plain_row g.P.Plane.plain c.args.row.now in
    let is = met_is g.P.Plane.widths g.met.P.Plane.widths_stay c.args.sought.now c.args.first.now c.args.second.now c.add-first.result c.add-second.result row c.is_met.result c.requires.own c.add-first.ensures c.add-second.ensures c.is_met.ensures in
    taken_in g.P.Plane.plain (is_sought g.P.Plane.widths c.args.sought.now) c.args.out.now.items c.push.new.self.items
    (record { first = c.add-first.result; second = c.add-second.result; leaf = c.in_ok-leaf.leaf }) (moved c.args.first.now c.args.second.now row) c.is_met.result is
    c.if-not-is_met.false
    (made_is g.P.Plane.plain c.args.first.now c.args.second.now c.add-first.result c.add-second.result c.args.row.now c.in_ok-leaf.leaf c.add-first.ensures c.add-second.ensures c.in_ok-leaf.ensures)
    c.in_ok-push.ensures.ok

pub returns-then-not-is_met-clause-goes_on : goal.returns-then-not-is_met-clause-goes_on
returns-then-not-is_met-clause-goes_on g c = goes_on c.args.sought.now c.add-first.result (sum c.args.first.now c.args.row.now.first) c.is_past.result c.add-first.ensures c.is_past.ensures c.if-is_past.false

pub returns-clause-goes_on : goal.returns-clause-goes_on
returns-clause-goes_on g c = goes_on c.args.sought.now c.add-first.result (sum c.args.first.now c.args.row.now.first) c.is_past.result c.add-first.ensures c.is_past.ensures c.if-is_past.false

use Rattle.std.proofs.Common.{◌≤◌, length, map, arith}
use Rattle.std.proofs.lemmas.List.{length-map}
use Rattle.enfilade_core.specs.Axes.{first_axis, second_axis, IsWellFormedRow}
use Rattle.enfilade_core.specs.Plain.{plain_row}
use Rattle.enfilade_core.proofs.GoneThrough.{mapped_at, item-well_formed}
use Rattle.enfilade_core.proofs.ReachBelow.{row-reached, rows-reached}
use Rattle.enfilade_core.proofs.reach.rows_reach.Goals as goal

pub join_row-requires-clause-first : goal.join_row-requires-clause-first
join_row-requires-clause-first g c =
    let at = mapped_at (plain_row g.P.Plane.plain) c.args.rows.now c.loop-row.row-index c.row-item.result c.loop-row-test.true c.row-item.is in
    let well_formed = item-well_formed (IsWellFormedRow g.P.Plane.widths) (map (plain_row g.P.Plane.plain) c.args.rows.now) c.loop-row.row-index (plain_row g.P.Plane.plain c.row-item.result) at.short at.at c.requires in
    rw (c.first_width.ensures) well_formed.first_end

pub join_row-requires-clause-second : goal.join_row-requires-clause-second
join_row-requires-clause-second g c =
    let at = mapped_at (plain_row g.P.Plane.plain) c.args.rows.now c.loop-row.row-index c.row-item.result c.loop-row-test.true c.row-item.is in
    let well_formed = item-well_formed (IsWellFormedRow g.P.Plane.widths) (map (plain_row g.P.Plane.plain) c.args.rows.now) c.loop-row.row-index (plain_row g.P.Plane.plain c.row-item.result) at.short at.at c.requires in
    rw (c.second_width.ensures) well_formed.second_end

pub loop-row-preserved : goal.loop-row-preserved
loop-row-preserved g c =
    let rows = map (plain_row g.P.Plane.plain) c.args.rows.now in
    let row = plain_row g.P.Plane.plain c.row-item.result in
    let at = mapped_at (plain_row g.P.Plane.plain) c.args.rows.now c.loop-row.row-index c.row-item.result c.loop-row-test.true c.row-item.is in
    record {
      first = row-reached (first_axis g.P.Plane.widths) rows c.loop-row.row-index row c.loop-row.reach.first c.join_row.new.self.first at.short at.at c.loop-row.invariant.first (rw (← c.first_width.ensures) c.join_row.ensures.first);
      second = row-reached (second_axis g.P.Plane.widths) rows c.loop-row.row-index row c.loop-row.reach.second c.join_row.new.self.second at.short at.at c.loop-row.invariant.second (rw (← c.second_width.ensures) c.join_row.ensures.second);
    }

pub returns : goal.returns
returns g c =
    let rows = map (plain_row g.P.Plane.plain) c.args.rows.now in
    let le : length rows ≤ c.loop-row.row-index = omega (arith, length-map c.args.rows.now (plain_row g.P.Plane.plain), c.loop-row-test.false) in
    record {
      first = rows-reached (first_axis g.P.Plane.widths) rows c.loop-row.row-index c.loop-row.reach.first le c.loop-row.invariant.first;
      second = rows-reached (second_axis g.P.Plane.widths) rows c.loop-row.row-index c.loop-row.reach.second le c.loop-row.invariant.second;
    }

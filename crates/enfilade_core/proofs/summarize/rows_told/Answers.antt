use Rattle.std.proofs.Common.{map}
use Rattle.enfilade_core.specs.Axes.{IsWellFormedRow}
use Rattle.enfilade_core.specs.Plain.{plain_row}
use Rattle.enfilade_core.specs.Summary.{row_summary}
use Rattle.enfilade_core.proofs.GoneThrough.{mapped_at, item-well_formed}
use Rattle.enfilade_core.proofs.Joined.{joined-next}
use Rattle.enfilade_core.proofs.summarize.rows_told.Goals as goal

pub join_row-requires-clause-first : goal.join_row-requires-clause-first
join_row-requires-clause-first g c =
    let at = mapped_at (plain_row g.P.Plane.plain) c.args.rows.now c.loop-row.row-index c.row-item.result c.loop-row-test.true c.row-item.is in
    let well_formed = item-well_formed (IsWellFormedRow g.P.Plane.widths) (map (plain_row g.P.Plane.plain) c.args.rows.now) c.loop-row.row-index (plain_row g.P.Plane.plain c.row-item.result) at.short at.at c.requires in
    rw (c.first_width.ensures) well_formed.first_end

pub join_row-requires-clause-second : goal.join_row-requires-clause-second
join_row-requires-clause-second g c =
    let at = mapped_at (plain_row g.P.Plane.plain) c.args.rows.now c.loop-row.row-index c.row-item.result c.loop-row-test.true c.row-item.is in
    let well_formed = item-well_formed (IsWellFormedRow g.P.Plane.widths) (map (plain_row g.P.Plane.plain) c.args.rows.now) c.loop-row.row-index (plain_row g.P.Plane.plain c.row-item.result) at.short at.at c.requires in
    rw (c.second_width.ensures) well_formed.second_end

pub loop-row-preserved : goal.loop-row-preserved
loop-row-preserved g c =
    let at = mapped_at (plain_row g.P.Plane.plain) c.args.rows.now c.loop-row.row-index c.row-item.result c.loop-row-test.true c.row-item.is in
    joined-next (row_summary g.P.Plane.widths) (map (plain_row g.P.Plane.plain) c.args.rows.now) c.loop-row.row-index (plain_row g.P.Plane.plain c.row-item.result) c.loop-row.summary c.join_row.new.self at.short at.at c.loop-row.invariant
    (rw (← c.first_width.ensures, ← c.second_width.ensures) c.join_row.ensures)

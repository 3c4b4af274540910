use Rattle.std.proofs.Common.{map}
use Rattle.tumbler.specs.Laws.{StandsBefore}
use Rattle.enfilade_core.specs.Plain.{plain_row}
use Rattle.enfilade_core.proofs.GoneThrough.{mapped_at, item-well_formed}
use Rattle.enfilade_core.proofs.pack_children.rows_back.Goals as goal

pub row_back-requires-clause-first_up_to : goal.row_back-requires-clause-first_up_to
row_back-requires-clause-first_up_to g c =
    let at = mapped_at (plain_row g.P.Plane.plain) c.args.rows.now c.loop-row.row-index c.row-item.result c.loop-row-test.true c.row-item.is in
    (item-well_formed (λ row. StandsBefore c.args.first.now row.first) (map (plain_row g.P.Plane.plain) c.args.rows.now) c.loop-row.row-index (plain_row g.P.Plane.plain c.row-item.result) at.short at.at c.requires.first_before).up_to

pub row_back-requires-clause-second_up_to : goal.row_back-requires-clause-second_up_to
row_back-requires-clause-second_up_to g c =
    let at = mapped_at (plain_row g.P.Plane.plain) c.args.rows.now c.loop-row.row-index c.row-item.result c.loop-row-test.true c.row-item.is in
    (item-well_formed (λ row. StandsBefore c.args.second.now row.second) (map (plain_row g.P.Plane.plain) c.args.rows.now) c.loop-row.row-index (plain_row g.P.Plane.plain c.row-item.result) at.short at.at c.requires.second_before).up_to

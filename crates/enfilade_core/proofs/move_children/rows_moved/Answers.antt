use Rattle.tumbler.proofs.SumOrder.{fits_if_tumbler}
use Rattle.enfilade_core.specs.Axes.{IsWellFormedRow}
use Rattle.enfilade_core.specs.Rows.{moved}
use Rattle.enfilade_core.specs.Plain.{plain_row}
use Rattle.enfilade_core.proofs.OpenedAt.{row-fits}
use Rattle.enfilade_core.proofs.move_children.rows_moved.Goals as goal

pub row_moved-requires-clause-first_fits : goal.row_moved-requires-clause-first_fits
row_moved-requires-clause-first_fits g c =
    fits_if_tumbler c.args.first.now c.row-item.result.first
    (row-fits (IsWellFormedRow g.P.Plane.widths) (plain_row g.P.Plane.plain) (moved c.args.first.now c.args.second.now) c.args.rows.now c.loop-row.row-index c.row-item.result c.loop-row-test.true c.row-item.is c.requires).first_coordinate

pub row_moved-requires-clause-second_fits : goal.row_moved-requires-clause-second_fits
row_moved-requires-clause-second_fits g c =
    fits_if_tumbler c.args.second.now c.row-item.result.second
    (row-fits (IsWellFormedRow g.P.Plane.widths) (plain_row g.P.Plane.plain) (moved c.args.first.now c.args.second.now) c.args.rows.now c.loop-row.row-index c.row-item.result c.loop-row-test.true c.row-item.is c.requires).second_coordinate

use Rattle.tumbler.specs.Places.{sum}
use Rattle.tumbler.proofs.SumOrder.{fits_if_tumbler}
use Rattle.enfilade_core.proofs.KeptRows.{row-past, shift-past}
use Rattle.enfilade_core.proofs.exchange_bottom.append_shifted_back.Goals as goal

pub row_shifted_back-requires-clause-fits : goal.row_shifted_back-requires-clause-fits
row_shifted_back-requires-clause-fits g c = fits_if_tumbler c.args.first.now c.row-item.result.first (row-past g.P.Plane.plain g.P.Plane.widths c.args.first.now c.args.second.now c.args.gap.now c.args.rows.now c.loop-row.row-index c.row-item.result c.loop-row-test.true c.row-item.is c.requires.fits c.requires.past c.requires.well_formed).fits.first_coordinate

pub row_shifted_back-requires-clause-past : goal.row_shifted_back-requires-clause-past
row_shifted_back-requires-clause-past g c = (row-past g.P.Plane.plain g.P.Plane.widths c.args.first.now c.args.second.now c.args.gap.now c.args.rows.now c.loop-row.row-index c.row-item.result c.loop-row-test.true c.row-item.is c.requires.fits c.requires.past c.requires.well_formed).past

pub row_shifted_back-requires-clause-well_formed : goal.row_shifted_back-requires-clause-well_formed
row_shifted_back-requires-clause-well_formed g c = (row-past g.P.Plane.plain g.P.Plane.widths c.args.first.now c.args.second.now c.args.gap.now c.args.rows.now c.loop-row.row-index c.row-item.result c.loop-row-test.true c.row-item.is c.requires.fits c.requires.past c.requires.well_formed).well_formed.first_coordinate

pub row_shifted_back-requires-clause-up_to : goal.row_shifted_back-requires-clause-up_to
row_shifted_back-requires-clause-up_to g c =
    let at = (row-past g.P.Plane.plain g.P.Plane.widths c.args.first.now c.args.second.now c.args.gap.now c.args.rows.now c.loop-row.row-index c.row-item.result c.loop-row-test.true c.row-item.is c.requires.fits c.requires.past c.requires.well_formed) in
    (shift-past c.args.first.now c.args.gap.now.to c.args.gap.now.onto (sum c.args.first.now c.row-item.result.first) at.past at.fits.first_coordinate.ends c.requires.stands).up_to

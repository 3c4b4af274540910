use Rattle.enfilade_core.proofs.ExchangeBottom.{past-at, well_formed-at}
use Rattle.enfilade_core.proofs.exchange.append_shifted.Goals as goal

pub row_shifted-requires-clause-past : goal.row_shifted-requires-clause-past
row_shifted-requires-clause-past g c = past-at g.P.Plane.plain c.args.gap.now.to c.args.rows.now c.loop-row.row-index c.row-item.result c.loop-row-test.true c.row-item.is c.requires.past

pub row_shifted-requires-clause-well_formed : goal.row_shifted-requires-clause-well_formed
row_shifted-requires-clause-well_formed g c = well_formed-at g.P.Plane.widths g.P.Plane.plain c.args.gap.now.to c.args.gap.now.onto c.args.rows.now c.loop-row.row-index c.row-item.result c.loop-row-test.true c.row-item.is c.requires.well_formed

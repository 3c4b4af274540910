use Rattle.std.proofs.Common.{◌∙◌}
use Rattle.enfilade_core.proofs.BesideRows.{ends-told}
use Rattle.enfilade_core.proofs.arena.Arena.first_of.Goals as goal

pub add-requires : goal.add-requires
add-requires g c = (ends-told g.P.Plane.widths g.met.P.Plane.widths_stay c.args.self.now c.summary-summary.ensures.well_formed c.args.branch.now c.summary-summary.result.now c.summary-summary.ensures.told c.requires.part).first_fits

pub returns-clause-value : goal.returns-clause-value
returns-clause-value g c = c.add.ensures ∙ (ends-told g.P.Plane.widths g.met.P.Plane.widths_stay c.args.self.now c.summary-summary.ensures.well_formed c.args.branch.now c.summary-summary.result.now c.summary-summary.ensures.told c.requires.part).first

pub returns-clause-some : goal.returns-clause-some
returns-clause-some g c = (ends-told g.P.Plane.widths g.met.P.Plane.widths_stay c.args.self.now c.summary-summary.ensures.well_formed c.args.branch.now c.summary-summary.result.now c.summary-summary.ensures.told c.requires.part).some

pub returns-clause-ordered : goal.returns-clause-ordered
returns-clause-ordered g c = (ends-told g.P.Plane.widths g.met.P.Plane.widths_stay c.args.self.now c.summary-summary.ensures.well_formed c.args.branch.now c.summary-summary.result.now c.summary-summary.ensures.told c.requires.part).ordered

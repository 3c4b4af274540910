use Rattle.enfilade_core.proofs.BranchTests.{leaves-kept}
use Rattle.enfilade_core.proofs.arena.Arena.leaves.Goals as goal

pub returns : goal.returns
returns g c = leaves-kept g.P.Plane.widths g.met.P.Plane.widths_stay c.args.self.now c.summary.ensures.well_formed c.args.root.0 c.summary.result.now c.requires c.summary.ensures.told

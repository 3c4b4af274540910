use Rattle.std.proofs.Common.{◌∙◌, ap}
use Rattle.enfilade_core.specs.declared.summary.Summary.{Summary}
use Rattle.enfilade_core.proofs.Told.{tells}
use Rattle.enfilade_core.proofs.arena.Arena.first_extent.Goals as goal

pub returns : goal.returns
returns g c =
    ap (λ (s : Summary). s.first_extent) c.summary.ensures.told
    ∙ (tells g.P.Plane.widths g.met.P.Plane.widths_stay c.args.self.now c.summary.ensures.well_formed c.args.root.0 c.requires).first_extent

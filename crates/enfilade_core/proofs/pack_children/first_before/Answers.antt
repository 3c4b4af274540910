use Rattle.std.proofs.Common.{◌∙◌, ap, sym}
use Rattle.tumbler.specs.Places.{just_before}
use Rattle.enfilade_core.proofs.PackedOrigins.{before_rows}
use Rattle.enfilade_core.proofs.pack_children.first_before.Goals as goal

pub returns : goal.returns
returns g c =
    before_rows g.P.Plane.plain g.P.Plane.widths c.args.rows.now c.index-rows-0.result c.just_before.result c.requires.some c.index-rows-0.is (c.just_before.ensures ∙ ap (λ row. just_before row.first) (sym c.index-rows-0.is)) c.requires.well_formed

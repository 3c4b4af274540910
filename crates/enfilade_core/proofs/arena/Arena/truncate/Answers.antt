use Rattle.std.proofs.Common.{◌∙◌, ap, take}
use Rattle.enfilade_core.proofs.Arenas.{arena-take, shapes-take}
use Rattle.enfilade_core.proofs.arena.Arena.truncate.Goals as goal

pub invariant_of-self : goal.invariant_of-self
invariant_of-self g c = arena-take g.P.Plane.plain g.P.Plane.widths c.args.mark c.self.inside.nodes.items c.truncate.new.self.items c.truncate.ensures.items c.self.invariant

pub returns : goal.returns
returns g c = shapes-take g.P.Plane.plain c.args.mark c.self.inside.nodes.items c.truncate.new.self.items c.truncate.ensures.items ∙ ap (take c.args.mark) c.self.view_is

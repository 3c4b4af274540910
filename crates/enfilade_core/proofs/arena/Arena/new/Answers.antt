use Rattle.enfilade_core.proofs.Arenas.{arena-none}
use Rattle.enfilade_core.proofs.arena.Arena.new.Goals as goal

pub invariant_of-result : goal.invariant_of-result
invariant_of-result g c = arena-none g.P.Plane.plain g.P.Plane.widths c.new.result.items c.new.ensures.items

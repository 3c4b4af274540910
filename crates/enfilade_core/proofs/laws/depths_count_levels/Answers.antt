use Rattle.enfilade_core.proofs.Heights.{depths_count_levels}
use Rattle.enfilade_core.proofs.laws.depths_count_levels.Goals as goal

pub returns : goal.returns
returns g c = depths_count_levels g.P.Plane.widths c.args.arena.now c.nodes_are_well_formed.ensures

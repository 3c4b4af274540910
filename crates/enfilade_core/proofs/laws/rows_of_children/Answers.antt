use Rattle.enfilade_core.proofs.Seen.{rows_of_children}
use Rattle.enfilade_core.proofs.laws.rows_of_children.Goals as goal

pub returns : goal.returns
returns g c = rows_of_children g.P.Plane.widths c.args.arena.now c.nodes_are_well_formed.ensures

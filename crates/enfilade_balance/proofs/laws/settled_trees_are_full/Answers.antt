use Rattle.enfilade_balance.proofs.Full.{settled-full}
use Rattle.enfilade_balance.proofs.laws.settled_trees_are_full.Goals as goal

pub returns : goal.returns
returns g c = settled-full g.P.Plane.widths c.args.arena.now c.nodes_are_well_formed.ensures

use Rattle.enfilade_balance.proofs.Full.{balance_states-of-children}
use Rattle.enfilade_balance.proofs.laws.balance_states_of_children.Goals as goal

pub returns : goal.returns
returns g c = balance_states-of-children g.P.Plane.widths c.args.arena.now c.nodes_are_well_formed.ensures

use Rattle.enfilade_balance.proofs.Full.{debts-stay}
use Rattle.enfilade_balance.proofs.laws.debts_stay.Goals as goal

pub returns : goal.returns
returns g c = debts-stay g.P.Plane.widths c.args.arena.now c.nodes_are_well_formed.ensures

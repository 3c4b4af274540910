use Rattle.enfilade_sweep.proofs.Counted.{reached_exactly, none_left}
use Rattle.enfilade_sweep.proofs.StillReached.{hangs_before}
use Rattle.enfilade_sweep.proofs.laws.reached_are_counted.Goals as goal

pub returns-clause-exact : goal.returns-clause-exact
returns-clause-exact g c = λ roots k. reached_exactly c.args.arena.now roots (hangs_before g.P.Plane.widths c.args.arena.now c.nodes_are_well_formed.ensures) k

pub returns-clause-none_left : goal.returns-clause-none_left
returns-clause-none_left g c = λ roots none. none_left c.args.arena.now roots none

use Rattle.std.proofs.Common.{sym, subst}
use Rattle.febe_data.specs.Plain.{plain_change}
use Rattle.tree_world.specs.Standing.{Stands}
use Rattle.tree_world.specs.Changed.{after_change}
use Rattle.tree_world.proofs.world.TreeWorld.change_beside.Goals as goal

pub returns-in-Restart-clause-ok : goal.returns-in-Restart-clause-ok
returns-in-Restart-clause-ok c view stands = subst (λ x. Stands c.restart.new.self (after_change view c.args.session (plain_change x))) (sym c.in-Restart.is) (c.restart.ensures.stands view c.args.session stands)

use Rattle.std.proofs.Common.{sym, subst}
use Rattle.tree_world.specs.Standing.{Stands}
use Rattle.tree_world.proofs.Opened.{restarted_in}
use Rattle.tree_world.proofs.world.TreeWorld.restart.Goals as goal

pub returns-clause-stands : goal.returns-clause-stands
returns-clause-stands c view session stands = restarted_in _ _ session view (subst (λ t. Stands t view) (sym c.self.view_is) stands) c.new.ensures

use Rattle.std.proofs.Common.{sym, subst}
use Rattle.tree_world.specs.Standing.{Stands}
use Rattle.tree_world.proofs.Opened.{ended_in}
use Rattle.tree_world.proofs.world.TreeWorld.end.Goals as goal

pub returns-clause-stands : goal.returns-clause-stands
returns-clause-stands c view stands = ended_in _ _ c.args.session view (subst (λ t. Stands t view) (sym c.self.view_is) stands) c.end.ensures

use Rattle.std.proofs.Common.{refl, sym, subst}
use Rattle.tree_world.specs.Standing.{Stands}
use Rattle.tree_world.proofs.Opened.{opened_in}
use Rattle.tree_world.proofs.world.TreeWorld.open.Goals as goal

pub returns-clause-ok : goal.returns-clause-ok
returns-clause-ok c view stands = opened_in _ _ c.args.session view (subst (λ t. Stands t view) (sym c.self.view_is) stands) c.args.document.now c.args.mode (c.if-not-may_open.ensures refl) c.in_ok-open.ensures.opened

use Rattle.std.proofs.Common.{sym, subst}
use Rattle.tree_world.specs.Standing.{Stands}
use Rattle.tree_world.proofs.Opened.{account_in_place}
use Rattle.tree_world.proofs.world.TreeWorld.set_account.Goals as goal

pub returns-clause-ok : goal.returns-clause-ok
returns-clause-ok c view stands = account_in_place _ _ c.args.session view (subst (λ t. Stands t view) (sym c.self.view_is) stands) c.args.account.now c.in_ok-set_account.ensures.set

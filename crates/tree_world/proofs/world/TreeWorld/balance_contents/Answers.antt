use Rattle.std.proofs.Common.{refl, ap}
use Rattle.tree_world.specs.Nodes.{nodes_in}
use Rattle.tree_world.proofs.Grown.{grown_as}
use Rattle.tree_world.proofs.Undone.{grown_none}
use Rattle.tree_world.proofs.world.TreeWorld.balance_contents.Goals as goal

pub returns-in_err-made-clause-grown : goal.returns-in_err-made-clause-grown
returns-in_err-made-clause-grown c = grown_as _ _ _ _ (ap nodes_in c.self.view_is) refl (record { contents = c.in_err-made.ensures.grows; documents = grown_none _; index = grown_none _; from = grown_none _; to = grown_none _; three = grown_none _ })

pub returns-clause-grown : goal.returns-clause-grown
returns-clause-grown c = grown_as _ _ _ _ (ap nodes_in c.self.view_is) refl (record { contents = c.in_ok-made.ensures.grows; documents = grown_none _; index = grown_none _; from = grown_none _; to = grown_none _; three = grown_none _ })

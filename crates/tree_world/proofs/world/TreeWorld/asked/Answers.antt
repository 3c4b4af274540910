use Rattle.std.proofs.Common.{refl}
use Rattle.tree_world.proofs.Looked.{root_stands}
use Rattle.tree_world.proofs.Showing.{no_tree}
use Rattle.tree_world.proofs.world.TreeWorld.asked.Goals as goal

pub shows_any-requires-clause-root : goal.shows_any-requires-clause-root
shows_any-requires-clause-root c = root_stands c.self.inside.pooms c.self.inside.documents c.args.document.now c.in-Some.root c.self.invariant.0 c.in-Some.ensures

pub returns-in_default-clause-shows : goal.returns-in_default-clause-shows
returns-in_default-clause-shows c = no_tree _ c.args.self.now c.args.spans.now c.args.document.now _ c.self.view_is c.in_default.ensures refl

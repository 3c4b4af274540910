use Rattle.tree_world.proofs.Looked.{root_stands}
use Rattle.tree_world.proofs.world.TreeWorld.span_runs.Goals as goal

pub picked-requires-clause-root : goal.picked-requires-clause-root
picked-requires-clause-root c = root_stands c.self.inside.pooms c.self.inside.documents c.args.document.now c.in-Some.root c.self.invariant.0 c.in-Some.ensures

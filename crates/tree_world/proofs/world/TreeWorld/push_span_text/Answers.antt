use Rattle.tree_world.proofs.Looked.{root_stands}
use Rattle.tree_world.proofs.world.TreeWorld.push_span_text.Goals as goal

pub push_text-requires-clause-root : goal.push_text-requires-clause-root
push_text-requires-clause-root c = root_stands c.self.inside.pooms c.self.inside.documents c.args.document.now c.in-Some.root c.self.invariant.0 c.in-Some.ensures

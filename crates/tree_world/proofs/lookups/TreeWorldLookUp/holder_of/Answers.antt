use Rattle.std.proofs.Common.{ap}
use Rattle.tree_world.specs.Trees.{Trees}
use Rattle.tree_world.proofs.Writers.{holder_is}
use Rattle.tree_world.proofs.lookups.TreeWorldLookUp.holder_of.Goals as goal

pub returns : goal.returns
returns c view stands =
    holder_is c.self.inside.access.open_rows c.args.self.now view.world c.args.document.now (ap (λ (t : Trees). t.access.open_rows) c.self.view_is) stands.access c.writer.result c.writer.ensures.found c.writer.ensures.none

use Rattle.std.proofs.Common.{ap}
use Rattle.tree_world.specs.Trees.{Trees}
use Rattle.tree_world.proofs.Writers.{held_is, unheld_is}
use Rattle.tree_world.proofs.lookups.TreeWorldLookUp.is_held_against.Goals as goal

pub returns-in-Some : goal.returns-in-Some
returns-in-Some c view stands =
    held_is c.self.inside.access.open_rows c.args.self.now view.world c.args.document.now (ap (λ (t : Trees). t.access.open_rows) c.self.view_is) stands.access c.args.session c.in-Some.writer c.in-Some.ensures.found

pub returns-in-None : goal.returns-in-None
returns-in-None c view stands =
    unheld_is c.self.inside.access.open_rows c.args.self.now view.world c.args.document.now (ap (λ (t : Trees). t.access.open_rows) c.self.view_is) stands.access c.args.session c.in-None.ensures.none

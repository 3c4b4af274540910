use Rattle.std.proofs.Common.{◌∙◌, ap}
use Rattle.tree_world.specs.Trees.{Trees}
use Rattle.tree_world.specs.inside.Reads.{reads_in}
use Rattle.tree_world.proofs.world.TreeWorld.may_read.Goals as goal

pub returns : goal.returns
returns c = c.reads.ensures ∙ ap (λ (t : Trees). reads_in t c.args.account.now c.args.document.now) c.self.view_is

use Rattle.std.proofs.Common.{◌∙◌}
use Rattle.tree_world.proofs.Seen.{count_picked}
use Rattle.tree_world.proofs.positions.picked_count.Goals as goal

pub returns : goal.returns
returns c addresses same =
    c.saturating_sub.ensures ∙ count_picked c.args.part c.bound-from.result c.bound-to.result c.args.span.now c.add.result c.args.long c.add.ensures c.bound-from.ensures c.bound-to.ensures addresses same

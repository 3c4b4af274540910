use Rattle.std.proofs.Common.{Some, ap, ◌∙◌}
use Rattle.tree_world.proofs.MarkedAll.{marks_more}
use Rattle.tree_world.proofs.going_on.all_marks.Goals as goal

pub loop-k-preserved : goal.loop-k-preserved
loop-k-preserved c = marks_more c.args.documents.now c.loop-k.k c.copy.result c.loop-k.made.items c.push.new.self.items (ap Some c.copy.ensures ∙ c.in-Some.ensures) c.loop-k.invariant c.in_ok-push.ensures.ok

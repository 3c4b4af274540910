use Rattle.tree_world.proofs.Swept.{roots_more}
use Rattle.tree_world.proofs.sweeping.roots_of.Goals as goal

pub loop-k-preserved : goal.loop-k-preserved
loop-k-preserved c = roots_more c.args.documents.now c.loop-k.k c.in-Some.root c.loop-k.made.items c.push.new.self.items c.in-Some.ensures c.loop-k.invariant c.in_ok-push.ensures.ok

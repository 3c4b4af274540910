use Rattle.std.proofs.Common.{subst}
use Rattle.links.specs.LinkLists.{HoldsRuns}
use Rattle.tree_world.proofs.Begun.{begun}
use Rattle.tree_world.proofs.world.TreeWorld.new.Goals as goal

pub returns : goal.returns
returns c =
    begun c.in_ok-contents.contents c.new-4.result c.in_ok-index.index c.in_ok-links.links c.in_ok-contents.ensures.bytes c.in_ok-links.ensures c.new-8.result.items c.new-5.result c.new-6.result c.new-7.result c.new-5.ensures c.new-6.ensures c.new-7.ensures
    (subst (HoldsRuns 1 c.in_ok-links.links.links) c.index-from.ensures.index c.index-from.ensures.holds)
    (subst (HoldsRuns 2 c.in_ok-links.links.links) c.index-to.ensures.index c.index-to.ensures.holds)
    (subst (HoldsRuns 3 c.in_ok-links.links.links) c.index-three.ensures.index c.index-three.ensures.holds)
